-- The line of a stint in its two parts: its days, and what the bank did on them.
use Rattle.base.proofs.Prelude.{ℕ, ◌≡◌, [], ◌∷◌, ◌++◌, append_assoc, append-nil}
use Rattle.rules.specs.declared.Use.{Use}
use Rattle.rules.specs.declared.Use.TheVariants.{Idle, Work, Move}
use Rattle.rules.specs.Lines.{bytes_of, decimal, worded_in, worded}
use Rattle.lines.specs.{Stints.{one_day_line, days_line}, inner.Uses.used_words}

pub one_day_is : (t : ℕ) (u : Use) → worded "day #" (decimal t ∷ []) ++ used_words u ≡ one_day_line t u
unfolding bytes_of worded_in one_day_line used_words
one_day_is t Idle = simp (append_assoc, append-nil)
one_day_is t (Work i k) = simp (append_assoc, append-nil)
one_day_is t (Move i k) = simp (append_assoc, append-nil)

pub days_are : (t e : ℕ) (u : Use) → worded "days # to #" (decimal t ∷ decimal e ∷ []) ++ used_words u ≡ days_line t e u
unfolding bytes_of worded_in days_line used_words
days_are t e Idle = simp (append_assoc, append-nil)
days_are t e (Work i k) = simp (append_assoc, append-nil)
days_are t e (Move i k) = simp (append_assoc, append-nil)
