-- A day keeps the account: whoever is on the bank in the phase without blocking is near, so what is left falls by one a day; and
-- while a job that is not near blocks, b grows with the days and no near job that may take the bank has come.
use Rattle.base.proofs.Prelude.{ℕ, suc, ◌+◌, ◌*◌, ◌≤◌, ◌<◌, ◌≡◌, sym, ap, ◌∙◌, subst, ◌⊎◌, inl, inr, true, List, arith, dec_le, length}
use Rattle.rules.specs.{declared.Plan.Plan, declared.Release.Release, declared.Slot.Slot, declared.Job.TheVariants.Empty, declared.Use.Use, Plan.strings_of, Release.first_unlawful, Demand.hold_of, Run.{on_bank, waits, left, given, spent, use_of, joined, taken, late_at}}
use Rattle.base.proofs.{Lists.{by_bool, true-not-false}, Sums.{sum_to, sum_to-grown, sum_to-some, sum_to-none}}
use Rattle.laws.proofs.{Lawful.LawfulPlan, Slots.at, Choice.Nobody, ReleaseList.str}
use Rattle.sound.proofs.{Using.{Using, idle_day, kept_day, given_day, Used, spent-using, neither-empty, left-empty}, Orderly.{Live, Orderly, live-if-on, live-if-waits, used-within, using-orderly}, Arriving.morning-orderly, Morning.morning-fair, Account.{near_left, near_left-some, backlog, asks, Asked, Span, Blocking, BlockedBy, Account, Phase, blocked, flowing, Mode, opened, span-step, blocker-silent, span-blocked}, Asking.{morning-asked, morning-backlog, morning-kept, asked-near}, Turn.{turn-left, turn-due, used-less, used-near, used-on, used-flowing}}

pub day-orderly : (p : Plan) (rs : List Release) → LawfulPlan p → first_unlawful p rs ≡ 0 → (t : ℕ) (ss : List Slot) → Orderly p rs t ss
    → late_at t ss ≡ 0
    → Orderly p rs (suc t) (spent (given (taken p t (joined p rs t ss))))
day-orderly p rs lawful listed t ss o punctual =
    let ks = taken p t (joined p rs t ss) in
    using-orderly p rs (suc t) ks (spent (given ks)) (use_of (given ks)) (morning-orderly p rs lawful listed t ss o punctual)
    (spent-using ks)

module _ (p : Plan) (rs : List Release) (lawful : LawfulPlan p) (listed : first_unlawful p rs ≡ 0)
    (t : ℕ) (ss : List Slot) (o : Orderly p rs t ss) (punctual : late_at t ss ≡ 0) (d : ℕ) (mode : Mode p rs d t ss) where
  -- the slots in the morning, and those of the next day
  abbrev ks : List Slot
  ks = taken p t (joined p rs t ss)

  abbrev es : List Slot
  es = spent (given ks)

  orderly : Orderly p rs (suc t) ks
  orderly = morning-orderly p rs lawful listed t ss o punctual

  -- the counts with today's near releases
  abbrev more : ℕ → ℕ
  more j = mode.k j + asks t d (at ks j)

  abbrev total : (ℕ → ℕ) → ℕ
  total c = sum_to (length (strings_of p)) (λ j. c j * hold_of p (str p j))

  more-balance : backlog p d ks + t ≤ mode.start + mode.b + total more
  more-balance =
      omega (
        arith,
        morning-backlog p rs lawful listed t ss o punctual d,
        mode.account.balance,
        sum_to-grown (length (strings_of p)) mode.k (λ j. asks t d (at ks j)) (λ j. hold_of p (str p j)),
      )

  more-spans : (j : ℕ) → j < length (strings_of p) → Span p rs d (suc t) mode.start mode.b j (more j)
  more-spans j a =
      span-step p rs listed d t mode.start mode.b j mode.account.within (mode.k j) (asks t d (at ks j))
      (morning-asked p rs lawful listed t ss o punctual d j a) (mode.account.spans j a)

  -- no near job of the string that blocked has come
  blocker-more : (b : ℕ) → (b ≡ 0) ⊎ BlockedBy p rs d mode.start b mode.k → (b ≡ 0) ⊎ BlockedBy p rs d mode.start b more
  blocker-more b (inl none) = inl none
  blocker-more b (inr by) =
      let silent =
      blocker-silent p rs listed d t mode.start by.q (asks t d (at ks by.q)) (omega (arith, mode.account.within)) by.job
      (morning-asked p rs lawful listed t ss o punctual d by.q by.place) in
      inr (record { q = by.q; place = by.place; bound = by.bound; job = by.job; own = omega (arith, by.own) })

  -- a near job used the day
  near-account : backlog p d es < backlog p d ks → Account p rs d (suc t) es mode.start mode.b more
  near-account less =
      record {
        balance = omega (arith, more-balance);
        within = omega (arith, mode.account.within);
        blocker = blocker-more mode.b mode.account.blocker;
        spans = more-spans;
      }

  near-mode : (u : Use) (h : ℕ) → Used ks es u h → Live p rs (suc t) h (at ks h)
      → ((i : ℕ) → i < length (strings_of p) → on_bank (at ks i).job ≡ true → i ≡ h) → (at ks h).deadline.0 ≤ d → Mode p rs d (suc t) es
  near-mode u h k l only near =
      record {
        start = mode.start;
        b = mode.b;
        k = more;
        account = near-account (used-near p rs (suc t) d ks es u orderly h k l near);
        phase = used-flowing p rs (suc t) d ks es u orderly h k l only near;
      }

  -- ---- The blocking job keeps the bank

  module _ (u : Use) (h : ℕ) (k : Used ks es u h) (on : on_bank (at ks h).job ≡ true) (a : h < length (strings_of p)) where
    kept-is : at ks h ≡ at ss h
    kept-is = morning-kept p rs lawful listed t ss o punctual d h a on

    kept-due : (at ks h).deadline.0 ≡ (at ss h).deadline.0
    kept-due = ap (λ s. s.deadline.0) kept-is

    kept-left : left (at ks h).job ≡ left (at ss h).job
    kept-left = ap (λ s. left s.job) kept-is

    kept-before : on_bank (at ss h).job ≡ true
    kept-before = sym (ap (λ s. on_bank s.job) kept-is) ∙ on

    kept-live : Live p rs (suc t) h (at ks h)
    kept-live = live-if-on p rs (suc t) h (at ks h) (orderly.sits h a) on

    kept-only : (i : ℕ) → i < length (strings_of p) → on_bank (at ks i).job ≡ true → i ≡ h
    kept-only i b on' = orderly.alone i h b a on' on

    module _ (far : d < (at ks h).deadline.0) (days-so-far : t ≡ mode.start + mode.b)
        (bound : left (at ks h).job + suc mode.b ≤ hold_of p (str p h)) (job : Blocking p rs d mode.start h)
        (own : mode.k h ≡ 0)
        (no-takers : (j : ℕ) → j < length (strings_of p) → (str p j).x ≡ 1 → mode.k j ≡ 0) where
      -- a near job that might have taken the bank would have
      none_came : (j : ℕ) → j < length (strings_of p) → (str p j).x ≡ 1 → asks t d (at ks j) ≡ 0
      none_came j b x = go (morning-asked p rs lawful listed t ss o punctual d j b)
        where
          go : Asked p rs d t j (asks t d (at ks j)) → asks t d (at ks j) ≡ 0
          go (inl none) = none
          go (inr one) =
              let near = asked-near t d (at ks j) one.0 in
              let may : (at ks j).string.x ≡ 1 = ap (λ s. s.x) (orderly.string-kept j b) ∙ x in
              let fair = morning-fair p rs lawful listed t ss o punctual h a on j b near.0 near.1 may in
              absurd (omega (arith, near.2))

      still-no-takers : (j : ℕ) → j < length (strings_of p) → (str p j).x ≡ 1 → more j ≡ 0
      still-no-takers j b x = omega (arith, no-takers j b x, none_came j b x)

      still-own : more h ≡ 0
      still-own =
          omega (
            arith,
            blocker-silent p rs listed d t mode.start h (asks t d (at ks h)) (omega arith) job
                (morning-asked p rs lawful listed t ss o punctual d h a),
          )

      abbrev turned : suc (left (at es h).job) ≡ left (at ks h).job
      turned = turn-left p rs (suc t) d ks es u orderly h k kept-live

      blocked-account : Account p rs d (suc t) es mode.start (suc mode.b) more
      blocked-account =
          record {
            balance = omega (arith, more-balance, used-less p rs (suc t) d ks es u orderly h k kept-live);
            within = omega arith;
            blocker = inr (record { q = h; place = a; bound = omega (arith, turned); job = job; own = still-own });
            spans = λ j b. span-blocked p rs d (suc t) mode.start mode.b j (more j) (still-no-takers j b) (more-spans j b);
          }

      -- it goes on, or it is gone and the bank is free
      blocked-phase : Phase p rs d (suc t) es mode.start (suc mode.b) more
      blocked-phase =
          by_bool (on_bank (at es h).job)
          (λ on'.
          blocked h a on' (omega (arith, turn-due p rs (suc t) d ks es u orderly h k kept-live)) (omega arith)
          (omega (arith, turned)) job still-own still-no-takers)
          (λ off.
          flowing
          (λ i b on'.
          absurd
          (true-not-false
          (sym on' ∙ ap (λ j. on_bank (at es j).job) (used-on p rs (suc t) d ks es u orderly h k kept-live kept-only i b on') ∙ off))))

      blocked-mode : Mode p rs d (suc t) es
      blocked-mode = record { start = mode.start; b = suc mode.b; k = more; account = blocked-account; phase = blocked-phase }

    kept-mode : Phase p rs d t ss mode.start mode.b mode.k → Mode p rs d (suc t) es
    kept-mode (blocked q b on' far same-day bound job own no-takers) =
        let who : q ≡ h = o.alone q h b a on' kept-before in
        let due = ap (λ i. (at ss i).deadline.0) who in
        let rest = ap (λ i. left (at ss i).job) who in
        blocked-mode (omega (arith, kept-due)) same-day
        (omega (arith, kept-left, ap (λ i. hold_of p (str p i)) who))
        (subst (Blocking p rs d mode.start) who job)
        (omega (arith, ap mode.k who))
        no-takers
    kept-mode (flowing all_near) =
        near-mode u h k kept-live kept-only (omega (arith, all_near h a kept-before, kept-due))

  -- ---- The bank is given

  some_near : 1 ≤ backlog p d ks → (j : ℕ) × (j < length (strings_of p)) × ((at ks j).deadline.0 ≤ d) × (1 ≤ left (at ks j).job)
  unfolding backlog
  some_near some =
      let one = sum_to-some (length (strings_of p)) (λ j. near_left d (at ks j)) some in
      let near = near_left-some d (at ks one.0) one.2 in
      (one.0, one.1, near.0, near.1)

  given-mode : (u : Use) (h : ℕ) → Nobody (λ s. on_bank s.job) ks (length ks) → waits (at ks h).job ≡ true
      → ((i : ℕ) → i < length ks → waits (at ks i).job ≡ true → (at ks h).deadline.0 ≤ (at ks i).deadline.0)
      → Used ks es u h → 1 ≤ backlog p d ks → Mode p rs d (suc t) es
  given-mode u h none w first k some =
      let a = used-within p rs (suc t) ks es u orderly h k in
      let near = some_near some in
      let j = near.0 in
      let within : j < length ks = omega (arith, near.1, orderly.size) in
      let waiting : waits (at ks j).job ≡ true =
      by_bool (waits (at ks j).job) (λ t'. t')
      (λ f. absurd (omega (arith, near.3, left-empty (at ks j).job (neither-empty (at ks j).job f (none j within))))) in
      near-mode u h k (live-if-waits p rs (suc t) h (at ks h) (orderly.sits h a) w)
      (λ i b on. absurd (true-not-false (sym on ∙ none i (omega (arith, orderly.size)))))
      (omega (arith, first j within waiting, near.2))

  -- ---- The day

  empty-backlog : ((i : ℕ) → i < length ks → (at ks i).job ≡ Empty) → backlog p d ks ≡ 0
  unfolding backlog
  empty-backlog empty =
      sum_to-none (length (strings_of p)) (λ j. near_left d (at ks j))
      (λ j a.
      elim (dec_le 1 (near_left d (at ks j))) [
        | yes some ↦
            absurd (omega (arith, (near_left-some d (at ks j) some).1, left-empty (at ks j).job (empty j (omega (arith, orderly.size)))))
        | no none ↦ omega arith
      ])

  used-mode : (u : Use) → Using ks es u → 1 ≤ backlog p d es → Mode p rs d (suc t) es
  used-mode u (idle_day empty is idle) some = absurd (omega (arith, ap (backlog p d) is, empty-backlog empty))
  used-mode u (kept_day h on k) some =
      kept-mode u h k on (used-within p rs (suc t) ks es u orderly h k) mode.phase
  used-mode u (given_day h none w first k) some =
      let a = used-within p rs (suc t) ks es u orderly h k in
      let l = live-if-waits p rs (suc t) h (at ks h) (orderly.sits h a) w in
      given-mode u h none w first k (omega (arith, used-less p rs (suc t) d ks es u orderly h k l))

  pub day-mode : Mode p rs d (suc t) es
  day-mode =
      elim (dec_le 1 (backlog p d es)) [
        | yes some ↦ used-mode (use_of (given ks)) (spent-using ks) some
        | no none ↦ opened p rs d (suc t) es (day-orderly p rs lawful listed t ss o punctual) (omega arith)
      ]
