-- What holds of the slots of a run: each is empty or has a job of its string with something left, not past its deadline; one job at most
-- is on the bank. Steps 3 to 5 keep it.
--     Live p rs t j s       the slot s, with index j, has a job released before day t and not due before t
--     Orderly p rs t ss     the slots ss stand so before day t
use Rattle.base.proofs.Prelude.{ℕ, suc, ◌+◌, ◌≤◌, ◌<◌, ◌≡◌, refl, sym, ap, ◌∙◌, subst, ◌⊎◌, inl, inr, true, false, cond, List, arith, ℕ_discrete, length}
use Rattle.rules.specs.{declared.Plan.Plan, declared.Release.Release, declared.Slot.Slot, declared.Job.Job, declared.Job.TheVariants.{Empty, Waiting, OnBank}, declared.Use.Use, Plan.strings_of, Demand.{moving_cost, hold_of}, Run.{on_bank, waits, left, stopped, charged, seated, spent_job, put_job}}
use Rattle.base.proofs.Lists.{by_bool, true-not-false}
use Rattle.laws.proofs.{Slots.at, ReleaseList.{str, Released, due_at}}
use Rattle.sound.proofs.{Taking.{Taking, bank_free, bank_kept, bank_taken, Took, Taker}, Using.{Using, idle_day, kept_day, given_day, Used, spent-left, spent-cases, GoneOrOn}}

-- a job on the bank at the start of a day has used a day
abbrev pub held : Job → ℕ
held job = cond (on_bank job) 1 0

pub record Live (p : Plan) (rs : List Release) (t j : ℕ) (s : Slot) : Type 0 where
  pub some : 1 ≤ left s.job
  pub released : Released rs j s.release.0
  pub named : s.serves ≡ suc released.0
  pub before : s.release.0 < t
  pub due : s.deadline.0 ≡ due_at rs released.0 + (str p j).d.0
  pub due-latest : s.deadline.0 ≤ s.release.0 + (str p j).d.0
  pub cap : left s.job + held s.job ≤ hold_of p (str p j)
  pub open-still : t ≤ s.deadline.0

abbrev pub Sits : Plan → List Release → ℕ → ℕ → Slot → Type 0
Sits p rs t j s = (s.job ≡ Empty) ⊎ Live p rs t j s

pub record Orderly (p : Plan) (rs : List Release) (t : ℕ) (ss : List Slot) : Type 0 where
  pub size : length ss ≡ length (strings_of p)
  pub string-kept : (j : ℕ) → j < length (strings_of p) → (at ss j).string ≡ str p j
  pub sits : (j : ℕ) → j < length (strings_of p) → Sits p rs t j (at ss j)
  pub alone : (i j : ℕ) → i < length (strings_of p) → j < length (strings_of p) → on_bank (at ss i).job ≡ true
      → on_bank (at ss j).job ≡ true → i ≡ j

-- ---- Jobs

pub empty-not-on : (job : Job) → job ≡ Empty → on_bank job ≡ true → ⊥
empty-not-on job e o = true-not-false (sym o ∙ ap on_bank e)

pub empty-not-waits : (job : Job) → job ≡ Empty → waits job ≡ true → ⊥
empty-not-waits job e w = true-not-false (sym w ∙ ap waits e)

pub stopped-left : (job : Job) → left (stopped job) ≡ left job
stopped-left Empty = refl
stopped-left (Waiting w m) = refl
stopped-left (OnBank w m) = refl

pub stopped-off : (job : Job) → on_bank (stopped job) ≡ false
stopped-off Empty = refl
stopped-off (Waiting w m) = refl
stopped-off (OnBank w m) = refl

charged-left : (a : ℕ) (job : Job) → waits job ≡ true → left (charged a job) ≡ left job + a
charged-left a Empty w = absurd (true-not-false (sym w))
charged-left a (Waiting w m) h = omega arith
charged-left a (OnBank w m) h = absurd (true-not-false (sym h))

charged-off : (a : ℕ) (job : Job) → waits job ≡ true → on_bank (charged a job) ≡ false
charged-off a Empty w = refl
charged-off a (Waiting w m) h = refl
charged-off a (OnBank w m) h = absurd (true-not-false (sym h))

off-held : (job : Job) → on_bank job ≡ false → held job ≡ 0
off-held job e = rw e

pub on-held : (job : Job) → on_bank job ≡ true → held job ≡ 1
on-held job e = rw e

pub live-if-left : (p : Plan) (rs : List Release) (t j : ℕ) (s : Slot) → Sits p rs t j s → 1 ≤ left s.job → Live p rs t j s
live-if-left p rs t j s (inl e) h = absurd (omega (arith, ap left e))
live-if-left p rs t j s (inr l) h = l

pub live-if-on : (p : Plan) (rs : List Release) (t j : ℕ) (s : Slot) → Sits p rs t j s → on_bank s.job ≡ true → Live p rs t j s
live-if-on p rs t j s (inl e) h = absurd (empty-not-on s.job e h)
live-if-on p rs t j s (inr l) h = l

pub live-if-waits : (p : Plan) (rs : List Release) (t j : ℕ) (s : Slot) → Sits p rs t j s → waits s.job ≡ true → Live p rs t j s
live-if-waits p rs t j s (inl e) h = absurd (empty-not-waits s.job e h)
live-if-waits p rs t j s (inr l) h = l

-- ---- Another job in the slot

module _ (p : Plan) (rs : List Release) (t j : ℕ) (s : Slot) (job : Job) where
  -- the same release, with something left and within E
  live-put : Live p rs t j s → 1 ≤ left job → left job + held job ≤ hold_of p (str p j) → Live p rs t j (put_job s job)
  live-put l some cap =
      record {
        some = some;
        released = l.released;
        named = l.named;
        before = l.before;
        due = l.due;
        due-latest = l.due-latest;
        cap = cap;
        open-still = l.open-still;
      }

-- ---- Step 3

module _ (p : Plan) (rs : List Release) (t day : ℕ) (ss ks : List Slot) (o : Orderly p rs t ss) where
  module _ (h q : ℕ) (k : Took p day ss ks h q) where
    stopped-sits : h < length (strings_of p) → Sits p rs t h (at ks h)
    stopped-sits a =
        let job = (at ss h).job in
        let l = live-if-on p rs t h (at ss h) (o.sits h a) k.holds in
        let same = stopped-left job in
        let off = off-held (stopped job) (stopped-off job) in
        rw k.stops (inr (live-put p rs t h (at ss h) (stopped job) l (omega (arith, l.some)) (omega (arith, l.cap))))

    charged-sits : q < length (strings_of p) → left (at ss q).job + moving_cost p (str p q) ≤ hold_of p (str p q) → Sits p rs t q (at ks q)
    charged-sits a afford =
        let job = (at ss q).job in
        let fee = moving_cost p (at ss q).string in
        let cost : fee ≡ moving_cost p (str p q) = ap (moving_cost p) (o.string-kept q a) in
        let l = live-if-waits p rs t q (at ss q) (o.sits q a) k.takes.waiting in
        let more = charged-left fee job k.takes.waiting in
        let off = off-held (charged fee job) (charged-off fee job k.takes.waiting) in
        rw k.pays (inr (live-put p rs t q (at ss q) (charged fee job) l (omega (arith, l.some)) (omega arith)))

    -- nobody is on the bank
    pub took-off : (i : ℕ) → i < length (strings_of p) → on_bank (at ks i).job ≡ false
    took-off i a =
        elim (ℕ_discrete i h) [
          | yes same ↦ subst (λ m. on_bank (at ks m).job ≡ false) (sym same)
              (ap (λ s. on_bank s.job) k.stops ∙ stopped-off (at ss h).job)
          | no other ↦
              elim (ℕ_discrete i q) [
                | yes same ↦
                    subst (λ m. on_bank (at ks m).job ≡ false) (sym same)
                    (ap (λ s. on_bank s.job) k.pays ∙ charged-off (moving_cost p (at ss q).string) (at ss q).job k.takes.waiting)
                | no apart ↦
                    by_bool (on_bank (at ks i).job)
                    (λ on.
                    let before : on_bank (at ss i).job ≡ true = sym (ap (λ s. on_bank s.job) (k.rest i other apart)) ∙ on in
                    absurd (other (o.alone i h a (omega (arith, k.holder_in, o.size)) before k.holds)))
                    (λ off. off)
              ]
        ]

    took-sits : left (at ss q).job + moving_cost p (str p q) ≤ hold_of p (str p q) → (i : ℕ) → i < length (strings_of p)
        → Sits p rs t i (at ks i)
    took-sits afford i a =
        elim (ℕ_discrete i h) [
          | yes same ↦ subst (λ m. Sits p rs t m (at ks m)) (sym same) (stopped-sits (omega arith))
          | no other ↦
              elim (ℕ_discrete i q) [
                | yes same ↦ subst (λ m. Sits p rs t m (at ks m)) (sym same) (charged-sits (omega arith) afford)
                | no apart ↦ subst (Sits p rs t i) (sym (k.rest i other apart)) (o.sits i a)
              ]
        ]

    took-string : (i : ℕ) → i < length (strings_of p) → (at ks i).string ≡ str p i
    took-string i a =
        elim (ℕ_discrete i h) [
          | yes same ↦ subst (λ m. (at ks m).string ≡ str p m) (sym same) (ap (λ s. s.string) k.stops ∙ o.string-kept h (omega arith))
          | no other ↦
              elim (ℕ_discrete i q) [
                | yes same ↦ subst (λ m. (at ks m).string ≡ str p m) (sym same)
                    (ap (λ s. s.string) k.pays ∙ o.string-kept q (omega arith))
                | no apart ↦ ap (λ s. s.string) (k.rest i other apart) ∙ o.string-kept i a
              ]
        ]

  pub taken-orderly : (payer : ℕ) → Taking p day ss ks payer
      → ((h q : ℕ) → q < length (strings_of p) → Taker day (at ss h) (at ss q) → left (at ss q).job + moving_cost p (str p q) ≤ hold_of p
      (str p q))
      → Orderly p rs t ks
  taken-orderly payer (bank_free none same zero-pays) afford = subst (Orderly p rs t) (sym same) o
  taken-orderly payer (bank_kept h within on none same zero-pays) afford = subst (Orderly p rs t) (sym same) o
  taken-orderly payer (bank_taken h q k sized pays) afford =
      record {
        size = sized ∙ o.size;
        string-kept = took-string h q k;
        sits = took-sits h q k (afford h q (omega (arith, k.payer_place, o.size)) k.takes);
        alone = λ i j a b on on'. absurd (true-not-false (sym on ∙ took-off h q k i a));
      }

-- ---- Steps 4 and 5

module _ (p : Plan) (rs : List Release) (t : ℕ) (ks es : List Slot) (u : Use) (o : Orderly p rs t ks) where
  module _ (h : ℕ) (k : Used ks es u h) (l : Live p rs t h (at ks h)) where
    turn-sits : Sits p rs t h (at es h)
    turn-sits = rw k.turn (go (spent-cases (at ks h).job))
      where
        go : GoneOrOn (spent_job (seated (at ks h).job)) → Sits p rs t h (put_job (at ks h) (spent_job (seated (at ks h).job)))
        go (inl gone) = inl gone
        go (inr on) =
            let job = spent_job (seated (at ks h).job) in
            let less = spent-left (at ks h).job l.some in
            let one = on-held job on.0 in
            inr (live-put p rs t h (at ks h) job l on.1 (omega (arith, l.cap)))

    used-sits : (i : ℕ) → i < length (strings_of p) → Sits p rs t i (at es i)
    used-sits i a =
        elim (ℕ_discrete i h) [
          | yes same ↦ subst (λ m. Sits p rs t m (at es m)) (sym same) turn-sits
          | no other ↦ subst (Sits p rs t i) (sym (k.rest i other)) (o.sits i a)
        ]

    used-string : (i : ℕ) → i < length (strings_of p) → (at es i).string ≡ str p i
    used-string i a =
        elim (ℕ_discrete i h) [
          | yes same ↦ subst (λ m. (at es m).string ≡ str p m) (sym same) (ap (λ s. s.string) k.turn ∙ o.string-kept h (omega arith))
          | no other ↦ ap (λ s. s.string) (k.rest i other) ∙ o.string-kept i a
        ]

    -- who is on the bank used the day
    used-orderly : ((i : ℕ) → i < length (strings_of p) → on_bank (at ks i).job ≡ true → i ≡ h) → Orderly p rs t es
    used-orderly only =
        record {
          size = k.size ∙ o.size;
          string-kept = used-string;
          sits = used-sits;
          alone = λ i j a b on on'. used-on i a on ∙ sym (used-on j b on');
        }
      where
        used-on : (i : ℕ) → i < length (strings_of p) → on_bank (at es i).job ≡ true → i ≡ h
        used-on i a on =
            elim (ℕ_discrete i h) [
              | yes same ↦ same
              | no other ↦ only i a (sym (ap (λ s. on_bank s.job) (k.rest i other)) ∙ on)
            ]

  pub used-within : (h : ℕ) → Used ks es u h → h < length (strings_of p)
  used-within h k = omega (arith, k.within, o.size)

  pub using-orderly : Using ks es u → Orderly p rs t es
  using-orderly (idle_day empty same idle) = subst (Orderly p rs t) (sym same) o
  using-orderly (kept_day h on k) =
      let a = used-within h k in
      used-orderly h k (live-if-on p rs t h (at ks h) (o.sits h a) on) (λ i b on'. o.alone i h b a on' on)
  using-orderly (given_day h none w first k) =
      let a = used-within h k in
      used-orderly h k (live-if-waits p rs t h (at ks h) (o.sits h a) w)
      (λ i b on'. absurd (true-not-false (sym on' ∙ none i (omega (arith, o.size)))))
