-- Each round leaves every run as it was, so the payable plan has the plan's runs. If it passes, by the sharp rule even, no lawful release
-- list misses in the plan as it stands, whatever the verdict on it says.
use Rattle.base.proofs.Prelude.{ℕ, zero, suc, ◌≤◌, ◌≡◌, refl, sym, ◌∙◌, subst, true, List, arith, le_refl, length}
use Rattle.rules.specs.{declared.Plan.Plan, declared.Release.Release, declared.Outcome.TheVariants.Clean, Plan.with_run, Release.first_unlawful, Demand.{moving_cost, hold_of, need, demand}, Verdict.{verdict_of, is_pass}, Run.{late_on, is_work, is_move, is_idle, miss_day, days_of, run_of}}
use Rattle.laws.proofs.{Lawful.LawfulPlan, History.{miss_day-none, run_of-clean}}
use Rattle.demand.proofs.Verdict.{passes-of-pass}
use Rattle.sound.specs.{Sharp.{need_but, demand_but, SharplyPasses}, Served.{released, due_of, Served}}
use Rattle.sound.proofs.{Sharp.passes-sharply, Clean.{Punctual, sharply-punctual}, Served.served-punctual}
use Rattle.exact.specs.Missing.{NeverMisses}
use Rattle.exact.proofs.Exact.{with_run-lawful}
use Rattle.charging.specs.{Payable.{can_lose, chargeable, uncharged, rounds, payable}, RunsAlike.RunsAlike}
use Rattle.charging.proofs.{RunsAlike.{alike-itself, alike-chain, alike-back, alike-miss, alike-run}, Uncharged.{uncharged-lawful, uncharged-listed, uncharged-alike}}

-- ---- Rounds

rounds-length : (k : ℕ) (p : Plan) → (rounds k p).run ≡ p.run
unfolding rounds
rounds-length zero p = refl
rounds-length (suc k) p = rounds-length k (uncharged p)

rounds-lawful : (k : ℕ) (p : Plan) → LawfulPlan p → LawfulPlan (rounds k p)
unfolding rounds
rounds-lawful zero p ok = ok
rounds-lawful (suc k) p ok = rounds-lawful k (uncharged p) (uncharged-lawful p ok)

rounds-listed : (k : ℕ) (p : Plan) (rs : List Release) → first_unlawful (rounds k p) rs ≡ first_unlawful p rs
unfolding rounds
rounds-listed zero p rs = refl
rounds-listed (suc k) p rs = rounds-listed k (uncharged p) rs ∙ uncharged-listed p rs

rounds-alike : (k : ℕ) (p : Plan) (rs : List Release) → LawfulPlan p → first_unlawful p rs ≡ 0 → RunsAlike (rounds k p) p rs
unfolding rounds
rounds-alike zero p rs ok listed = alike-itself p rs
rounds-alike (suc k) p rs ok listed =
    alike-chain p (uncharged p) rs (uncharged-alike p ok rs listed) (rounds k (uncharged p))
    (rounds-alike k (uncharged p) rs (uncharged-lawful p ok) (uncharged-listed p rs ∙ listed))

rounds-run : (k : ℕ) (p : Plan) (n : ℕ) → rounds k (with_run p n) ≡ with_run (rounds k p) n
unfolding rounds chargeable can_lose hold_of moving_cost
rounds-run zero p n = refl
rounds-run (suc k) p n = rounds-run k (uncharged p) n

-- ---- The payable plan

module _ (p : Plan) (ok : LawfulPlan p) where
  pub payable-lawful : LawfulPlan (payable p)
  unfolding payable
  payable-lawful = rounds-lawful p.n p ok

  module _ (rs : List Release) where
    pub payable-listed : first_unlawful (payable p) rs ≡ first_unlawful p rs
    unfolding payable
    payable-listed = rounds-listed p.n p rs

    module _ (listed : first_unlawful p rs ≡ 0) where
      pub payable-alike : RunsAlike (payable p) p rs
      unfolding payable
      payable-alike = rounds-alike p.n p rs ok listed

      payable-length : (payable p).run ≡ p.run
      unfolding payable
      payable-length = rounds-length p.n p

      -- its run ends as the plan's does
      pub payable-miss : miss_day (payable p) rs ≡ miss_day p rs
      payable-miss = alike-miss p (payable p) rs payable-alike payable-length

      pub payable-run : run_of (payable p) rs ≡ run_of p rs
      payable-run = alike-run p (payable p) rs payable-alike payable-length

      -- ---- Where it passes sharply

      module _ (sharp : SharplyPasses (payable p)) where
        payable-punctual : (t : ℕ) → Punctual p rs t
        payable-punctual t =
            alike-back p (payable p) rs payable-alike t
            (sharply-punctual (payable p) rs payable-lawful (payable-listed ∙ listed) sharp t)

        pub payable-never-late : (t : ℕ) → late_on p rs t ≡ 0
        payable-never-late t = payable-punctual (suc t) t (le_refl (suc t))

        pub payable-clean : run_of p rs ≡ Clean (days_of p rs is_work) (days_of p rs is_move) (days_of p rs is_idle)
        payable-clean = run_of-clean p rs (miss_day-none p rs (λ t h. payable-never-late t))

        -- each job has had its work, and any moving it caused, by its deadline
        pub payable-served : (k e : ℕ) → 1 ≤ k → k ≤ length rs → due_of p (released rs k) ≤ e → Served p rs k e
        payable-served k e low high due = served-punctual p rs ok listed k e low high (payable-punctual (suc e)) due

-- ---- Whatever N

sharply-run : (p : Plan) (n : ℕ) → SharplyPasses p → SharplyPasses (with_run p n)
unfolding demand demand_but need_but need hold_of moving_cost
sharply-run p n sharp =
    record {
      unblocked = sharp.unblocked;
      blocked = λ l b q can.
          sharp.blocked l b q
          (record { low = can.low; high = can.high; some = can.some; within = can.within; far = can.far; less = can.less });
    }

payable-with_run : (p : Plan) (n : ℕ) → payable (with_run p n) ≡ with_run (payable p) n
unfolding payable
payable-with_run p n = rounds-run p.n p n

-- no lawful release list misses, whatever the length of the run
pub payable-never-misses : (p : Plan) → LawfulPlan p → SharplyPasses (payable p) → NeverMisses p
payable-never-misses p ok sharp n low high rs m =
    let longer = with_run p n in
    let still : SharplyPasses (payable longer) = subst SharplyPasses (sym (payable-with_run p n)) (sharply-run (payable p) n sharp) in
    let clean = payable-clean longer (with_run-lawful p n ok low high) rs m.listed still in
    let missed = m.ends in
    let z : ◌≡◌ {A = ℕ} 0 1 = cc in
    omega arith

-- so it is where the verdict on the payable plan is a pass
pub pass-payable-never-misses : (p : Plan) → LawfulPlan p → is_pass (verdict_of (payable p)) ≡ true → NeverMisses p
pass-payable-never-misses p ok pass =
    payable-never-misses p ok (passes-sharply (payable p) (passes-of-pass (payable p) (payable-lawful p ok) pass))
