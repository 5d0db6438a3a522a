-- The end of a board: the line of a miss, where its day is in the calendar.
use Rattle.base.proofs.Prelude.{ℕ, ◌+◌, ◌≤◌, ◌<◌, zero-le, ◌≡◌, ap, ◌∙◌, List, [], ◌++◌, arith, le-leb, lt-leb, length, drop, length-append}
use Rattle.base.specs.Count.{put_at}
use Rattle.days.specs.{declared.Day.Day, declared.Length.Length}
use Rattle.calendar.specs.Numbers.{date_of, last_day}
use Rattle.rules.specs.declared.Outcome.{Outcome}
use Rattle.rules.specs.declared.Outcome.TheVariants.{Miss, Clean}
use Rattle.lines.specs.{Pages.{length_told, page_told}, Board.missed_line}
use Rattle.lines.proofs.Putting.{room, no-room}
use Rattle.boards.specs.{Board.{date_head, miss_line_of}, Whole.end_text, inner.Daily.head_with}
use Rattle.boards.proofs.Days.{head-long}

-- what is answered, and what the page holds
abbrev pub EndTold : ℕ → Outcome → List ℕ → ℕ → List ℕ → Type 0
EndTold k o page long after = (long ≡ length_told (end_text k o) page) × (after ≡ page_told (end_text k o) page)

-- nothing is told of an empty text
told-nothing : (k : ℕ) (o : Outcome) (page : List ℕ) → end_text k o ≡ [] → EndTold k o page 0 page
told-nothing k o page none = rw none (room [] page zero-le)

pub end_clean : (k : ℕ) (o : Outcome) (page : List ℕ) (w m i : Length) → o ≡ Clean w m i → EndTold k o page 0 page
unfolding end_text
end_clean k o page w m i is = told-nothing k o page (ap (end_text k) is)

module _ (k : ℕ) (t : Day) (i : ℕ) (page : List ℕ) where
  pub end-late : last_day < k + t.0 → EndTold k (Miss t i) page 0 page
  unfolding end_text
  end-late h = told-nothing k (Miss t i) page (rw (lt-leb (k + t.0) last_day h))

  module _ (there : k + t.0 ≤ last_day) where
    abbrev pub miss_line : List ℕ
    miss_line = head_with (date_of (k + t.0)) (k + t.0) ++ missed_line i

    end_is : end_text k (Miss t i) ≡ miss_line
    unfolding end_text miss_line_of date_head head_with
    end_is = rw (le-leb (k + t.0) last_day there)

    pub miss_line-long : length miss_line ≡ 15 + length (missed_line i)
    miss_line-long =
        omega (
          arith,
          length-append (head_with (date_of (k + t.0)) (k + t.0)) (missed_line i),
          head-long (date_of (k + t.0)) (k + t.0),
        )

    pub end_short : length page < 15 + length (missed_line i) → EndTold k (Miss t i) page 0 page
    end_short h = rw end_is (no-room miss_line page (omega (arith, miss_line-long)))

    pub end-put : 15 + length (missed_line i) ≤ length page
        → (long : ℕ) (after : List ℕ) → long ≡ 0 + length miss_line → after ≡ put_at 0 miss_line page → EndTold k (Miss t i) page long after
    end-put h long after is put =
        let fits = room miss_line page (omega (arith, miss_line-long)) in
        let same : 0 + length miss_line ≡ length miss_line = omega arith in
        rw end_is (is ∙ same ∙ fits.0, put ∙ ap (λ n. miss_line ++ drop n page) same ∙ fits.1)
