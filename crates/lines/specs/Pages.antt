-- A page of text: the bytes written so far, and zeros behind them.
--     page_of text           the page that holds a text
--     text_of page           the text that a page holds
-- A text that is put at the head of a lent page:
--     length_told text page  what is returned: its length; 0 where the page has fewer bytes
--     page_told text page    the page afterwards: the text, and then its own later bytes; as it was where the text does not fit
use Rattle.std.specs.Prelude.{ℕ, cond, List, ◌++◌, ltb, length, take, drop}
use Rattle.base.specs.Count.{filled}
use Rattle.lines.specs.Filling.{text-within, text-first}
use Rattle.lines.specs.declared.Page.{Page}

unfoldable pub page_of : List ℕ → Page
page_of text =
    record { len = length text; bytes = filled 256 0 text; within = text-within text; written = text-first text }

unfoldable pub text_of : Page → List ℕ
text_of page = take page.len page.bytes

unfoldable pub length_told : List ℕ → List ℕ → ℕ
length_told text page = cond (ltb (length page) (length text)) 0 (length text)

unfoldable pub page_told : List ℕ → List ℕ → List ℕ
page_told text page = cond (ltb (length page) (length text)) page (text ++ drop (length text) page)
