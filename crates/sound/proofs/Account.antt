-- The account of a run up to a day d. A job is near if it is due by d. What is left in near jobs is set against what near releases
-- have asked since a start day, and against b days in which a job that is not near blocked the bank.
--     near_left d s          what is left in the slot s, if its job is near
--     backlog p d ss        what is left in near jobs
--     asks t d s            1 if a near job came to the slot s on day t, else 0
--     Span ..               the last of k near releases of a place since the start has its due day T days after that of the one before,
--                           and so on; the first is due at most J days before the start
--     Blocking ..           a release of a place came before the start and is not near: no later one of the place is near
--     BlockedBy ..          some string's job, not near, can have blocked for b days; none of its string is counted
use Rattle.base.proofs.Prelude.{ℕ, suc, ◌+◌, ◌*◌, ◌≤◌, ◌<◌, ◌≡◌, refl, sym, ap, ◌∙◌, subst, ◌⊎◌, inl, inr, true, false, cond, ◌&&◌, List, arith, dec_le, suc-mul, zero-mul, le-leb, lt-leb, eqb, leb, length}
use Rattle.rules.specs.{declared.Plan.Plan, declared.Release.Release, declared.Slot.Slot, Plan.strings_of, Release.first_unlawful, Demand.hold_of, Run.{on_bank, waits, left}}
use Rattle.base.proofs.{Lists.true-not-false, Sums.{sum_to, sum_to-none, sum_to-part}}
use Rattle.laws.proofs.{Slots.at, Choice.Choice, ReleaseList.{str, Released, due_at, released-late, released-apart}}
use Rattle.laws.proofs.Choices.{holder-choice}
use Rattle.sound.proofs.Orderly.{Live, Orderly, on-held, live-if-on}

-- ---- What is left in near jobs

abbrev pub near_left : ℕ → Slot → ℕ
near_left d s = cond (leb s.deadline.0 d) (left s.job) 0

pub near_left-near : (d : ℕ) (s : Slot) → s.deadline.0 ≤ d → near_left d s ≡ left s.job
near_left-near d s h = rw (le-leb s.deadline.0 d h)

pub near_left-far : (d : ℕ) (s : Slot) → d < s.deadline.0 → near_left d s ≡ 0
near_left-far d s h = rw (lt-leb s.deadline.0 d h)

pub near_left-some : (d : ℕ) (s : Slot) → 1 ≤ near_left d s → (s.deadline.0 ≤ d) × (1 ≤ left s.job)
near_left-some d s h =
    elim (dec_le s.deadline.0 d) [
      | yes near ↦ (near, omega (arith, near_left-near d s near))
      | no far ↦ absurd (omega (arith, near_left-far d s (omega arith)))
    ]

unfoldable pub backlog : Plan → ℕ → List Slot → ℕ
backlog p d ss = sum_to (length (strings_of p)) (λ j. near_left d (at ss j))

-- ---- What near releases have asked

abbrev pub asks : ℕ → ℕ → Slot → ℕ
asks t d s = cond (waits s.job && eqb s.release.0 t && leb s.deadline.0 d) 1 0

-- the count k of near releases of the place with index j before day t, the last of them on day r
pub record SpanAt (p : Plan) (rs : List Release) (d t start b j k : ℕ) : Type 0 where
  pub r : ℕ
  pub released : Released rs j r
  pub before : r < t
  pub earlier : ℕ
  pub count : k ≡ suc earlier
  pub from : start + earlier * (str p j).t.0 ≤ due_at rs released.0 + (str p j).j.0
  pub from_taker : (str p j).x ≡ 1 → start + b + earlier * (str p j).t.0 ≤ due_at rs released.0 + (str p j).j.0
  pub until : due_at rs released.0 + (str p j).d.0 ≤ d

abbrev pub Span : Plan → List Release → ℕ → ℕ → ℕ → ℕ → ℕ → ℕ → Type 0
Span p rs d t start b j k = (k ≡ 0) ⊎ SpanAt p rs d t start b j k

-- a job of the place with index q, released before the start, that is not near
pub record Blocking (p : Plan) (rs : List Release) (d start q : ℕ) : Type 0 where
  pub r : ℕ
  pub released : Released rs q r
  pub before : r < start
  pub beyond : d < due_at rs released.0 + (str p q).d.0
  pub far : d < start + (str p q).d.0

-- it has held the bank for b days: it had used one before, so b is below E; and no job of its string is counted
pub record BlockedBy (p : Plan) (rs : List Release) (d start b : ℕ) (k : ℕ → ℕ) : Type 0 where
  pub q : ℕ
  pub place : q < length (strings_of p)
  pub bound : suc b ≤ hold_of p (str p q)
  pub job : Blocking p rs d start q
  pub own : k q ≡ 0

pub record Account (p : Plan) (rs : List Release) (d t : ℕ) (ss : List Slot) (start b : ℕ) (k : ℕ → ℕ) : Type 0 where
  pub balance : backlog p d ss + t ≤ start + b + sum_to (length (strings_of p)) (λ j. k j * hold_of p (str p j))
  pub within : start + b ≤ t
  pub blocker : (b ≡ 0) ⊎ BlockedBy p rs d start b k
  pub spans : (j : ℕ) → j < length (strings_of p) → Span p rs d t start b j (k j)

-- blocked since the start by the job at q, or else whoever is on the bank is near
pub data Phase (p : Plan) (rs : List Release) (d t : ℕ) (ss : List Slot) (start b : ℕ) (k : ℕ → ℕ) : Type 0 where
  blocked : (q : ℕ) → q < length (strings_of p) → on_bank (at ss q).job ≡ true → d < (at ss q).deadline.0 → t ≡ start + b
      → left (at ss q).job + suc b ≤ hold_of p (str p q) → Blocking p rs d start q → k q ≡ 0
      → ((j : ℕ) → j < length (strings_of p) → (str p j).x ≡ 1 → k j ≡ 0) → Phase p rs d t ss start b k
  flowing : ((j : ℕ) → j < length (strings_of p) → on_bank (at ss j).job ≡ true → (at ss j).deadline.0 ≤ d) → Phase p rs d t ss start b k

pub record Mode (p : Plan) (rs : List Release) (d t : ℕ) (ss : List Slot) : Type 0 where
  pub start : ℕ
  pub b : ℕ
  pub k : ℕ → ℕ
  pub account : Account p rs d t ss start b k
  pub phase : Phase p rs d t ss start b k

-- ---- The account is opened anew whenever nothing near is left

module _ (p : Plan) (rs : List Release) (d t : ℕ) (ss : List Slot) (o : Orderly p rs t ss) (nothing : backlog p d ss ≡ 0) where
  none-asked : sum_to (length (strings_of p)) (λ j. 0 * hold_of p (str p j)) ≡ 0
  none-asked = sum_to-none (length (strings_of p)) (λ j. 0 * hold_of p (str p j)) (λ j h. zero-mul (hold_of p (str p j)))

  opened-account : Account p rs d t ss t 0 (λ j. 0)
  opened-account =
      record {
        balance = omega (arith, none-asked);
        within = omega arith;
        blocker = inl refl;
        spans = λ j h. inl refl;
      }

  -- the holder is not near
  holder-far : (h : ℕ) → h < length (strings_of p) → Live p rs t h (at ss h) → d < (at ss h).deadline.0
  unfolding backlog
  holder-far h a l =
      elim (dec_le (at ss h).deadline.0 d) [
        | yes near ↦
            let part : near_left d (at ss h) ≤ sum_to (length (strings_of p)) (λ j. near_left d (at ss j)) =
            sum_to-part (length (strings_of p)) (λ j. near_left d (at ss j)) h a in
            absurd (omega (arith, near_left-near d (at ss h) near, l.some))
        | no far ↦ omega arith
      ]

  opened-phase : Phase p rs d t ss t 0 (λ j. 0)
  opened-phase = go (holder-choice ss)
    where
      go : {c : ℕ} → Choice (λ s. on_bank s.job) (λ s r. false) ss (length ss) c → Phase p rs d t ss t 0 (λ j. 0)
      go (inl none) = flowing (λ j a on. absurd (true-not-false (sym on ∙ none.1 j (omega (arith, o.size)))))
      go (inr one) =
          let h = one.0 in
          let a : h < length (strings_of p) = omega (arith, one.2.within, o.size) in
          let on = one.2.passes in
          let l = live-if-on p rs t h (at ss h) (o.sits h a) on in
          let far = holder-far h a l in
          let job : Blocking p rs d t h =
          record {
            r = (at ss h).release.0;
            released = l.released;
            before = l.before;
            beyond = omega (arith, l.due);
            far = omega (arith, l.due-latest, l.before);
          } in
          blocked h a on far (omega arith) (omega (arith, l.cap, on-held (at ss h).job on)) job refl (λ j e x. refl)

  pub opened : Mode p rs d t ss
  opened = record { start = t; b = 0; k = λ j. 0; account = opened-account; phase = opened-phase }

-- ---- One more near release

-- what may be asked on a day: nothing, or one near job
abbrev pub Asked : Plan → List Release → ℕ → ℕ → ℕ → ℕ → Type 0
Asked p rs d t j a = (a ≡ 0) ⊎ ((a ≡ 1) × (c : Released rs j t) × (due_at rs c.0 + (str p j).d.0 ≤ d))

module _ (p : Plan) (rs : List Release) (listed : first_unlawful p rs ≡ 0) (d t start b j : ℕ) (within : start + b ≤ t) where
  -- a near job of the place came on day t
  span_more : (k : ℕ) (c : Released rs j t) → due_at rs c.0 + (str p j).d.0 ≤ d → Span p rs d t start b j k
      → SpanAt p rs d (suc t) start b j (suc k)
  span_more k came near (inl none) =
      let zero-days : k * (str p j).t.0 ≡ 0 = ap (λ m. m * (str p j).t.0) none ∙ zero-mul (str p j).t.0 in
      let late = released-late p rs listed j t came in
      record {
        r = t;
        released = came;
        before = omega arith;
        earlier = k;
        count = refl;
        from = omega arith;
        from_taker = λ x. omega arith;
        until = near;
      }
  span_more k came near (inr s) =
      let apart = released-apart p rs listed j s.r t s.released came s.before in
      let more : k * (str p j).t.0 ≡ s.earlier * (str p j).t.0 + (str p j).t.0 =
      ap (λ m. m * (str p j).t.0) s.count ∙ suc-mul s.earlier (str p j).t.0 in
      record {
        r = t;
        released = came;
        before = omega arith;
        earlier = k;
        count = refl;
        from = omega (arith, s.from);
        from_taker = λ x. omega (arith, s.from_taker x);
        until = near;
      }

  span-kept : (k : ℕ) → Span p rs d t start b j k → Span p rs d (suc t) start b j k
  span-kept k (inl none) = inl none
  span-kept k (inr s) =
      inr
      (record {
        r = s.r;
        released = s.released;
        before = omega (arith, s.before);
        earlier = s.earlier;
        count = s.count;
        from = s.from;
        from_taker = s.from_taker;
        until = s.until;
      })

  pub span-step : (k a : ℕ) → Asked p rs d t j a → Span p rs d t start b j k → Span p rs d (suc t) start b j (k + a)
  span-step k a (inl none) s =
      let still : k ≡ k + a = omega arith in
      subst (Span p rs d (suc t) start b j) still (span-kept k s)
  span-step k a (inr one) s =
      let grown : suc k ≡ k + a = omega (arith, one.0) in
      subst (Span p rs d (suc t) start b j) grown (inr (span_more k one.1 one.2 s))

-- a later release of the string that blocks is due T days after the one that blocks, or more: it is not near, and nothing of it is asked
pub blocker-silent : (p : Plan) (rs : List Release) → first_unlawful p rs ≡ 0 → (d t start q a : ℕ) → start ≤ t → Blocking p rs d start q
    → Asked p rs d t q a → a ≡ 0
blocker-silent p rs listed d t start q a since job (inl none) = none
blocker-silent p rs listed d t start q a since job (inr one) =
    let later : job.r < t = omega (arith, job.before) in
    let apart = released-apart p rs listed q job.r t job.released one.1 later in
    absurd (omega (arith, job.beyond, one.2))

-- a day more of blocking changes nothing for strings that may not take the bank
pub span-blocked : (p : Plan) (rs : List Release) (d t start b j k : ℕ) → ((str p j).x ≡ 1 → k ≡ 0) → Span p rs d t start b j k
    → Span p rs d t start (suc b) j k
span-blocked p rs d t start b j k no-taker (inl none) = inl none
span-blocked p rs d t start b j k no-taker (inr s) =
    inr
    (record {
      r = s.r;
      released = s.released;
      before = s.before;
      earlier = s.earlier;
      count = s.count;
      from = s.from;
      from_taker = λ x. absurd (omega (arith, no-taker x, s.count));
      until = s.until;
    })
