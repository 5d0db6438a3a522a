-- Lines of one length, written one after the other into a part of a page: a string's line, or a release's.
--     Rows before part i    the lines of the first i stand at the head of the part, and what stood behind them stays
use Rattle.base.proofs.Prelude.{ℕ, ◌+◌, ◌-◌, ◌*◌, ◌≤◌, ◌<◌, suc, ◌≡◌, sym, ap, ◌∙◌, subst, List, [], ◌∷◌, ◌++◌, append-nil, arith, add-one, suc-mul, mul-le-mul_right, length, take, drop, get_or, length-append, length-drop, take-suc, take_all, length-take-le, put_mid}
use mathlib.Core.List.{flat_map}
use Rattle.rules.specs.{declared.BatteryString.BatteryString, declared.Plan.Plan, declared.Release.Release, declared.Releases.Releases, Plan.strings_of, Release.releases_of, Layout.{Layout, Version, line_size, header_frame, string_frame, release_frame}}
use Rattle.writing.specs.{declared.cells.Cell.Cell, Written.{frame_bytes, line_text, header_says, string_says, release_says, header_text, string_text, release_text, plan_text}, inner.Cells.{cells_size, cells_text, Room, SaysFrame}}
use Rattle.writing.proofs.Texts.{flat_map-append, flat_map-one, flat_map-length, lent-part, TextStands, stands-none, stands-next, line_text-length, frame_bytes-length, says-line}

module _ {ℓ} {A : Type ℓ} (f : A → List ℕ) (xs : List A) where
  abbrev pub Rows : List ℕ → List ℕ → ℕ → Type 0
  Rows before part i = TextStands before (flat_map f (take i xs)) part

  pub rows_start : (before : List ℕ) → Rows before before 0
  unfolding flat_map
  rows_start before = stands-none before

module _ {ℓ} {A : Type ℓ} (f : A → List ℕ) (k : ℕ) (each : (x : A) → length (f x) ≡ k) (xs : List A) (z : A) where
  step : (i : ℕ) → i < length xs → flat_map f (take (i + 1) xs) ≡ flat_map f (take i xs) ++ f (get_or xs i z)
  step i h =
      ap (flat_map f) (rw add-one (take-suc xs i z h)) ∙ flat_map-append f (take i xs) (get_or xs i z ∷ [])
      ∙ ap (λ rest. flat_map f (take i xs) ++ rest) (flat_map-one f (get_or xs i z) ∙ append-nil (f (get_or xs i z)))

  so_far : (i : ℕ) → i ≤ length xs → length (flat_map f (take i xs)) ≡ i * k
  so_far i h = flat_map-length f k each (take i xs) ∙ ap (λ n. n * k) (length-take-le i xs h)

  pub rows_next : (before part next : List ℕ) (i : ℕ) → Rows f xs before part i → i < length xs → i * k + k ≤ length part
      → next ≡ f (get_or xs i z) ++ drop k (take (length part - i * k) (drop (i * k) part))
      → Rows f xs before (put_mid (i * k) (length part - i * k) part next) (i + 1)
  rows_next before part next i s h room got =
      subst (λ text. TextStands before text (put_mid (i * k) (length part - i * k) part next)) (sym (step i h))
      (stands-next before (flat_map f (take i xs)) (f (get_or xs i z)) part next (i * k) k s (so_far i (omega arith)) (each (get_or xs i z))
      room got)

  -- all of them stand
  pub rows_written : (before part : List ℕ) (i : ℕ) → Rows f xs before part i → i ≡ length xs
      → part ≡ flat_map f xs ++ drop (length xs * k) before
  rows_written before part i s e =
      let all : take i xs ≡ xs = take_all i xs (omega arith) in
      s.is ∙ rw (all, flat_map-length f k each xs)

  -- there is room for the next
  pub rows-room : (before part : List ℕ) (i : ℕ) → Rows f xs before part i → i < length xs → length xs * k ≤ length before
      → i * k + k ≤ length part
  rows-room before part i s h room =
      let more : suc i * k ≤ length xs * k = mul-le-mul_right k h in
      omega (arith, s.size, suc-mul i k)

-- ---- The lines of a plan

frame-long : {F : Type 0} (l : Layout F) (says : F → ℕ) → length (line_text (frame_bytes l says)) ≡ line_size l
frame-long l says = line_text-length (frame_bytes l says) ∙ ap (λ k. k * 2 + 1) (frame_bytes-length l says)

module _ (v : Version) where
  pub string_text-length : (s : BatteryString) → length (string_text v s) ≡ line_size (string_frame v)
  unfolding string_text
  string_text-length s = frame-long (string_frame v) (string_says s)

  pub release_text-length : (r : Release) → length (release_text v r) ≡ line_size (release_frame v)
  unfolding release_text
  release_text-length r = frame-long (release_frame v) (release_says r)

  pub header_text-length : (p : Plan) → length (header_text v p) ≡ line_size (header_frame v)
  unfolding header_text
  header_text-length p = frame-long (header_frame v) (header_says v.number p)

module _ {F : Type 0} (cells : List Cell) (l : Layout F) (says : F → ℕ) where
  -- what put_frame leaves, for cells that say a frame
  pub line-put : (part next : List ℕ) → SaysFrame cells l says
      → next ≡ (cells_text cells ++ (0x0a ∷ [])) ++ drop (cells_size cells * 2 + 1) part
      → next ≡ line_text (frame_bytes l says) ++ drop (line_size l) part
  line-put part next s got =
      got ∙ ap (λ t. t ++ drop (cells_size cells * 2 + 1) part) (says-line l says cells s)
      ∙ ap (λ k. line_text (frame_bytes l says) ++ drop (k * 2 + 1) part) s.size

  -- and what it asks
  pub line-room : (k : ℕ) → SaysFrame cells l says → line_size l ≤ k → Room cells k
  line-room k s room = record { small = s.small; bytes = omega (arith, ap (λ n. n * 2 + 1) s.size) }

-- ---- One line after the other, each at its place

module _ {ℓ} {A : Type ℓ} {F : Type 0} (l : Layout F) (says : A → F → ℕ) (line : ℕ) (known : line ≡ line_size l) (xs : List A) (z : A)
    (before part : List ℕ) (i : ℕ) (low : i < length xs) (room : length xs * line ≤ length before)
  where
    abbrev text : A → List ℕ
    text x = line_text (frame_bytes l (says x))

    each : (x : A) → length (text x) ≡ line
    each x = frame-long l (says x) ∙ sym known

    module _ (cells : List Cell) (said : SaysFrame cells l (says (get_or xs i z))) (stand : Rows text xs before part i) where
      pub next-line-room : Room cells (length (take (length part - i * line) (drop (i * line) part)))
      next-line-room =
          let more = rows-room text line each xs z before part i stand low room in
          rw (lent-part (i * line) part)
          (line-room cells l (says (get_or xs i z)) _ said (omega (arith, length-drop (i * line) part)))

      pub next-line : (next : List ℕ)
          → next ≡ (cells_text cells ++ (0x0a ∷ []))
          ++ drop (cells_size cells * 2 + 1) (take (length part - i * line) (drop (i * line) part))
          → Rows text xs before (put_mid (i * line) (length part - i * line) part next) (i + 1)
      next-line next got =
          let there = take (length part - i * line) (drop (i * line) part) in
          rows_next text line each xs z before part next i stand low (rows-room text line each xs z before part i stand low room)
          (line-put cells l (says (get_or xs i z)) there next said got
          ∙ ap (λ k. text (get_or xs i z) ++ drop k there) (sym known))

-- ---- The whole text

-- how long the text of so many strings and releases is
abbrev pub long_as : Version → ℕ → ℕ → ℕ
long_as v n count = line_size (header_frame v) + n * line_size (string_frame v) + count * line_size (release_frame v)

module _ (v : Version) (p : Plan) (rs : Releases) (strings-many : length (strings_of p) ≡ p.n)
    (releases-many : length (releases_of rs) ≡ rs.count)
  where
    abbrev strings : List ℕ
    strings = flat_map (string_text v) (strings_of p)

    abbrev releases : List ℕ
    releases = flat_map (release_text v) (releases_of rs)

    pub strings-long : length strings ≡ p.n * line_size (string_frame v)
    strings-long =
        flat_map-length (string_text v) (line_size (string_frame v)) (string_text-length v) (strings_of p)
        ∙ ap (λ n. n * line_size (string_frame v)) strings-many

    releases-long : length releases ≡ rs.count * line_size (release_frame v)
    releases-long =
        flat_map-length (release_text v) (line_size (release_frame v)) (release_text-length v) (releases_of rs)
        ∙ ap (λ n. n * line_size (release_frame v)) releases-many

    pub text-long : length (plan_text v p (releases_of rs)) ≡ long_as v p.n rs.count
    unfolding plan_text
    text-long =
        length-append (header_text v p ++ strings) releases
        ∙ omega (arith, header_text-length v p, strings-long, releases-long, length-append (header_text v p) strings)
