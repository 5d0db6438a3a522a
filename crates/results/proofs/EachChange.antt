-- Each change of the list alone (document 02, W-212), and several at once: a table that a class can read, the plans of
-- plans/eased-*.plan. Before, for all of them: (10, 2, 6) (10, 3, 8) (10, 1, 2), moving cost 1, and the third string may take the bank.
-- That each is on the list is by Changes; what the verdict says of both plans is computed.
use Rattle.base.proofs.Prelude.{ℕ, ◌≡◌, refl, true, List, [], ◌∷◌, leb, leb-true, get_or, set}
use Rattle.faults.specs.Checks.{Lawful}
use mathlib.Core.List.{flat_map}
use Rattle.base.specs.Count.{All, sum_of, largest, smallest, smallest_with, every, up_from, least_from, first_of}
use Rattle.rules.specs.{declared.BatteryString.BatteryString, declared.Plan.Plan, Said.{Said, pass, asked_verdict_says}, Plan.{strings_of, no_string, string_lawful, common_multiple, multiple_of, leeway_min, d_max}, Demand.{moving_cost, hold_of, jobs, blocker_hold, block_limit, need, demand, load, overloaded}, Verdict.{pairs_at, all_pairs, broken, compared, judged, verdict_over}, Search.{permit, with_set}, Refusal.{count_check, run_length_check, cost_check, strings_check, multiple_check, plan_check, verdict_answer}}
use Rattle.rules.proofs.Worked.{string, paying, plan_of, plan}
use Rattle.results.specs.{Easing.{Eased, EasedPlan, eased, dropped, end}, Change.{Change, Eases}}
use Rattle.results.proofs.Changes.{one-eased, one-dropped}

abbrev change : Plan → Plan → Said → Said → Change
change p q said says = record { before = p; after = q; said = said; says = says }

-- ---- The rows

unfoldable pub uneased : Plan
uneased = with_set (plan (string 10 2 6 ∷ string 10 3 8 ∷ string 10 1 2 ∷ []) 1 20) 4

-- C falls: a job of the first string is shortened to one day
unfoldable pub shorter : Change
shorter = change uneased (with_set (plan (string 10 1 6 ∷ string 10 3 8 ∷ string 10 1 2 ∷ []) 1 20) 4) (pass 29) (pass 29)

-- T grows: the second string is tested half as often
unfoldable pub rarer : Change
rarer = change uneased (with_set (plan (string 10 2 6 ∷ string 20 3 8 ∷ string 10 1 2 ∷ []) 1 20) 4) (pass 29) (pass 39)

-- D grows: the third string is due a day later
unfoldable pub postponed : Change
postponed = change uneased (with_set (plan (string 10 2 6 ∷ string 10 3 8 ∷ string 10 1 3 ∷ []) 1 20) 4) (pass 29) (pass 27)

-- a moving cost falls: the third string moves for nothing
unfoldable pub nearer : Change
nearer =
    change uneased (with_set (plan_of (paying 1 (string 10 2 6) ∷ paying 1 (string 10 3 8) ∷ paying 0 (string 10 1 2) ∷ []) 20) 4)
    (pass 29) (pass 29)

-- a string is dropped, the second: the third is now at place 2 and keeps its permission, so that set 4 becomes set 2
unfoldable pub fewer : Change
fewer = change uneased (with_set (plan (string 10 2 6 ∷ string 10 1 2 ∷ []) 1 20) 2) (pass 29) (pass 19)

-- all of these at once
unfoldable pub together : Change
together = change uneased (with_set (plan_of (paying 1 (string 20 1 7) ∷ paying 0 (string 20 1 3) ∷ []) 20) 2) (pass 29) (pass 26)

unfoldable pub listed : List Change
listed = shorter ∷ rarer ∷ postponed ∷ nearer ∷ fewer ∷ together ∷ []

-- ---- They are on the list, and the verdicts say so

by-numbers :
    (old new : BatteryString) → leb new.c.0 old.c.0 ≡ true → leb old.t.0 new.t.0 ≡ true → leb old.d.0 new.d.0 ≡ true
    → leb new.a.0 old.a.0 ≡ true → leb new.j.0 old.j.0 ≡ true → new.j.0 ≡ 0 → new.x ≡ old.x → Eased old new
by-numbers old new c t d a j none x =
    record {
      work = leb-true _ _ c;
      apart = leb-true _ _ t;
      due = leb-true _ _ d;
      late = leb-true _ _ j;
      grown = λ h. none;
      moving = leb-true _ _ a;
      permission = x;
    }

-- the string at place i + 1 alone is another
one : (c : Change) (i : ℕ) → Eased (get_or (strings_of c.before) i no_string) (get_or (strings_of c.after) i no_string)
    → strings_of c.after ≡ set (strings_of c.before) i (get_or (strings_of c.after) i no_string) → EasedPlan c.before c.after
one c i = one-eased c.before c.after i (get_or (strings_of c.after) i no_string)

row : (c : Change) → EasedPlan c.before c.after → plan_check c.after ≡ Lawful
    → asked_verdict_says (verdict_answer c.before) ≡ c.said → asked_verdict_says (verdict_answer c.after) ≡ c.says → Eases c
row c easier lawful was is = record { easier = easier; lawful = lawful; both = record { was = was; is = is } }

pub each-change : All Eases listed
unfolding
    listed shorter rarer postponed nearer fewer together uneased string paying plan_of plan
    flat_map sum_of largest smallest smallest_with every up_from least_from first_of
    string_lawful common_multiple multiple_of leeway_min d_max
    moving_cost hold_of jobs blocker_hold block_limit need demand load overloaded
    pairs_at all_pairs broken compared judged verdict_over
    permit with_set
    count_check run_length_check cost_check strings_check multiple_check plan_check verdict_answer
each-change = (
  row shorter (one shorter 0 (by-numbers _ _ refl refl refl refl refl refl refl) refl) refl refl refl,
  (
    row rarer (one rarer 1 (by-numbers _ _ refl refl refl refl refl refl refl) refl) refl refl refl,
    (
      row postponed (one postponed 2 (by-numbers _ _ refl refl refl refl refl refl refl) refl) refl refl refl,
      (
        row nearer (one nearer 2 (by-numbers _ _ refl refl refl refl refl refl refl) refl) refl refl refl,
        (
          row fewer (one-dropped uneased fewer.after 1 refl) refl refl refl,
          (
            row together
                (eased (by-numbers _ _ refl refl refl refl refl refl refl)
                (dropped (eased (by-numbers _ _ refl refl refl refl refl refl refl) end)))
                refl refl refl,
            tt,
          ),
        ),
      ),
    ),
  ),
)
