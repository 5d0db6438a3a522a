-- How the run ended says how many days it goes, and its columns are drawn from its stints.
use Rattle.base.proofs.Prelude.{refl, sym, ◌∙◌, arith}
use Rattle.rules.specs.Release.{releases_of}
use Rattle.laws.proofs.Releases.{run_check-lawful}
use Rattle.bars.proofs.Sheets.{ended-late, listed-miss, listed-clean}
use Rattle.bars.proofs.sheet.ended.Goals as goal

pub drawn_from-requires-clause-end_bound : goal.drawn_from-requires-clause-end_bound
drawn_from-requires-clause-end_bound c =
    let late = ended-late c.args.p (releases_of c.args.rs) _ _ (sym c.requires.outcome_value ∙ c.in-Miss.is) in
    let most = (run_check-lawful c.args.p c.args.rs c.requires.rs_value).plan.run_max in
    omega (arith, late.within, most)

pub overflow_sub-result : goal.overflow_sub-result
overflow_sub-result c = (run_check-lawful c.args.p c.args.rs c.requires.rs_value).plan.run_pos

pub returns-in-Miss : goal.returns-in-Miss
returns-in-Miss c =
    let ended = sym c.requires.outcome_value ∙ c.in-Miss.is in
    record {
      told = listed-miss c.args.p (releases_of c.args.rs) _ _ c.requires.stints_value _ _ ended refl refl c.drawn_from.ensures.exact;
    }

pub returns-in-Clean : goal.returns-in-Clean
returns-in-Clean c =
    let ended = sym c.requires.outcome_value ∙ c.in-Clean.is in
    record {
      told = listed-clean c.args.p (releases_of c.args.rs) _ _ c.requires.stints_value _ _ _ ended refl refl
          c.drawn_from-in-Clean.ensures.exact;
    }
