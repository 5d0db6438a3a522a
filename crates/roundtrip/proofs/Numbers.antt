-- Numbers and the bytes that write them, fields and the frames that hold them: each says the other.
--     Says l says fs bytes  the fields fs of the bytes, as the layout l has them, say what says gives them
--     Fits l says           what says gives each field can be written in its bytes
-- A field of no byte is one that the frame does not have; it says nothing.
use Rattle.base.proofs.Prelude.{ℕ, zero, suc, ◌^◌, ◌≤◌, ◌<◌, ◌≡◌, refl, sym, ap, ◌∙◌, List, [], ◌∷◌, arith, dec_le, length, take, drop, length-drop, take-append-drop, take_at, drop_at, length-take-le}
use mathlib.Core.List.{flat_map}
use lib.Seq.{take-nil, drop-nil}
use Rattle.base.specs.{Count.All, Digits.places_of}
use Rattle.rules.specs.Layout.{Layout, size_of, number_of}
use Rattle.writing.specs.Written.{number_bytes}
use Rattle.base.proofs.{Digits.{places-length, places-below, places-said, places-written}, Order.all_append}
use Rattle.roundtrip.proofs.HexBytes.{SmallByte}

-- ---- Fields

all_take : (k : ℕ) (xs : List ℕ) → All SmallByte xs → All SmallByte (take k xs)
all_take k [] h = rw (take-nil k) tt
all_take zero (x ∷ xs) h = tt
all_take (suc k) (x ∷ xs) h = (h.0, all_take k xs h.1)

all_drop : (k : ℕ) (xs : List ℕ) → All SmallByte xs → All SmallByte (drop k xs)
all_drop k [] h = rw (drop-nil k) tt
all_drop zero (x ∷ xs) h = h
all_drop (suc k) (x ∷ xs) h = all_drop k xs h.1

module _ {F : Type 0} (l : Layout F) (says : F → ℕ) where
  abbrev pub field_bytes : F → List ℕ
  field_bytes f = number_bytes (l.size f) (says f)

  abbrev pub Says : List F → List ℕ → Type 0
  Says [] bytes = Unit {0}
  Says (f ∷ fs) bytes = (1 ≤ l.size f → number_of (take (l.size f) bytes) ≡ says f) × Says fs (drop (l.size f) bytes)

  abbrev pub Fits : Type 0
  Fits = (f : F) → 1 ≤ l.size f → says f < 256 ^ l.size f

  -- fields that are written say what was written
  pub fields-said : Fits → (fs : List F) → Says fs (flat_map field_bytes fs)
  unfolding flat_map
  fields-said h [] = tt
  fields-said h (f ∷ fs) =
      let front = take_at (field_bytes f) (flat_map field_bytes fs) (l.size f) (places-length 256 (l.size f) (says f)) in
      let back = drop_at (field_bytes f) (flat_map field_bytes fs) (l.size f) (places-length 256 (l.size f) (says f)) in
      (λ some. ap number_of front ∙ places-said 256 (omega arith) (l.size f) (says f) (h f some), rw back (fields-said h fs))

  -- bytes whose fields say what is written are what is written
  pub fields-written : (fs : List F) (bytes : List ℕ) → All SmallByte bytes → length bytes ≡ size_of l.size fs → Says fs bytes
      → flat_map field_bytes fs ≡ bytes
  unfolding flat_map places_of
  fields-written [] [] h e s = refl
  fields-written [] (b ∷ bytes) h e s = absurd (omega arith)
  fields-written (f ∷ fs) bytes h e s =
      let size = length-drop (l.size f) bytes in
      let rest = fields-written fs (drop (l.size f) bytes) (all_drop (l.size f) bytes h) (omega arith) s.1 in
      rw (first, rest) (take-append-drop (l.size f) bytes)
    where
      first : field_bytes f ≡ take (l.size f) bytes
      first =
          elim (dec_le 1 (l.size f)) [
            | yes some ↦
                ap (number_bytes (l.size f)) (sym (s.0 some))
                ∙ places-written 256 (omega arith) (l.size f) (take (l.size f) bytes) (all_take (l.size f) bytes h)
                (length-take-le (l.size f) bytes (omega arith))
            | no none ↦
                let nothing : l.size f ≡ 0 = omega arith in
                rw nothing
          ]

  pub fields-small : (fs : List F) → All SmallByte (flat_map field_bytes fs)
  unfolding flat_map
  fields-small [] = tt
  fields-small (f ∷ fs) =
      all_append SmallByte (field_bytes f) (flat_map field_bytes fs) (places-below 256 (omega arith) (l.size f) (says f)) (fields-small fs)
