-- Pages that grow: a page holds exactly one text, and what is appended stands behind it.
use Rattle.base.proofs.Prelude.{ℕ, ◌+◌, ◌-◌, ◌≤◌, ◌≡◌, sym, subst, ap, ◌∙◌, List, ◌++◌, append_assoc, arith, length, take, drop, replicate, length-append, take-append_seam, length-take-le, put_mid, take_at, drop_at}
use Rattle.std.specs.Coded.{le_prop, Coded-set, coded_list, coded_ℕ}
use Rattle.std.proofs.lemmas.List.{drop-replicate}
use Rattle.base.specs.Count.{filled}
use Rattle.lines.specs.{declared.Page.Page, Pages.{page_of, text_of}, Filling.text-first}

-- ---- A page is its length and its bytes: what else it promises can be shown in one way only

abbrev Kept : ℕ → List ℕ → Type 0
Kept n bytes = (n ≤ length bytes) × (bytes ≡ filled 256 0 (take n bytes))

abbrev made : (n : ℕ) (bytes : List ℕ) → Kept n bytes → Page
made n bytes k = record { len = n; bytes = bytes; within = k.0; written = k.1 }

made-same : (n : ℕ) (bytes : List ℕ) (h k : Kept n bytes) → made n bytes h ≡ made n bytes k
made-same n bytes h k =
    ap (λ within. made n bytes (within, h.1)) (le_prop h.0 k.0)
    ∙ ap (λ written. made n bytes (k.0, written)) (Coded-set (coded_list coded_ℕ) bytes (filled 256 0 (take n bytes)) h.1 k.1)

made-equal : (n m : ℕ) (bytes more : List ℕ) → n ≡ m → bytes ≡ more → (h : Kept n bytes) (k : Kept m more) → made n bytes h ≡ made m more k
made-equal n m bytes more e f =
    let P : ℕ → Type 0 = λ m. (h : Kept n bytes) (k : Kept m more) → made n bytes h ≡ made m more k in
    let Q : List ℕ → Type 0 = λ more. (h : Kept n bytes) (k : Kept n more) → made n bytes h ≡ made n more k in
    subst P e (subst Q f (made-same n bytes))

pub page-same : (p q : Page) → p.len ≡ q.len → p.bytes ≡ q.bytes → p ≡ q
page-same p q e f = made-equal p.len q.len p.bytes q.bytes e f (p.within, p.written) (q.within, q.written)

-- ---- The text of a page

pub text_of-page_of : (text : List ℕ) → text_of (page_of text) ≡ text
unfolding text_of page_of
text_of-page_of text = take-append_seam text (replicate (256 - length text) 0)

pub text-is : (page : Page) (text : List ℕ) → page ≡ page_of text → text_of page ≡ text
text-is page text e = ap text_of e ∙ text_of-page_of text

pub text-length : (page : Page) → length (text_of page) ≡ page.len
unfolding text_of
text-length page = length-take-le page.len page.bytes page.within

-- a page is known by its text
pub page_is : (page : Page) (text : List ℕ) → text_of page ≡ text → page ≡ page_of text
unfolding text_of page_of
page_is page text e =
    page-same page (page_of text) (sym (text-length page) ∙ ap length e) (page.written ∙ ap (filled 256 0) e)

pub len_is : (page : Page) (text : List ℕ) → page ≡ page_of text → page.len ≡ length text
unfolding page_of
len_is page text e = ap (λ (p : Page). p.len) e

pub within : (page : Page) (text : List ℕ) → page ≡ page_of text → page.len ≤ length page.bytes
within page text e = page.within

-- ---- A text behind another

-- a page once `now`, a copy of the text, is put back in the place of the k bytes behind its own text
module _ (page : Page) (text now : List ℕ) (k : ℕ) (room : page.len + length text ≤ 256) (counted : k ≡ length text) (copied : now ≡ text)
  where
    abbrev both : List ℕ
    both = text_of page ++ text

    abbrev longer : List ℕ
    longer = put_mid page.len k page.bytes now

    both-length : length both ≡ page.len + length text
    both-length = omega (arith, length-append (text_of page) text, text-length page)

    behind-is : drop k (drop page.len page.bytes) ≡ replicate (256 - length both) 0
    behind-is =
        let own = take page.len page.bytes in
        let long : length own ≡ page.len = length-take-le page.len page.bytes page.within in
        let zeros : drop page.len page.bytes ≡ replicate (256 - length own) 0 =
        ap (drop page.len) page.written ∙ drop_at own (replicate (256 - length own) 0) page.len long in
        let left : 256 - length own - k ≡ 256 - length both = omega (arith, both-length) in
        ap (drop k) zeros ∙ drop-replicate k (256 - length own) 0 ∙ ap (λ k. replicate k 0) left

    pub longer-is : longer ≡ filled 256 0 both
    unfolding text_of
    longer-is =
        ap (λ own. text_of page ++ (own ++ drop k (drop page.len page.bytes))) copied
        ∙ ap (λ rest. text_of page ++ (text ++ rest)) behind-is ∙ sym (append_assoc (text_of page) text (replicate (256 - length both) 0))

    pub longer-within : page.len + length text ≤ length longer
    longer-within = omega (arith, ap length longer-is, length-append both (replicate (256 - length both) 0), both-length)

    pub longer-written : longer ≡ filled 256 0 (take (page.len + length text) longer)
    longer-written =
        longer-is ∙ text-first both ∙ ap (filled 256 0) (ap (λ n. take n (filled 256 0 both)) both-length
        ∙ ap (take (page.len + length text)) (sym longer-is))

    pub longer-text : take (page.len + length text) longer ≡ both
    longer-text =
        ap (take (page.len + length text)) longer-is
        ∙ take_at both (replicate (256 - length both) 0) (page.len + length text) both-length
