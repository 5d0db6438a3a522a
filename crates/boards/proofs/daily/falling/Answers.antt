-- of twenty the first `count`, and those of them that fall
use Rattle.std.proofs.Common.{◌≡◌, ap, ◌∙◌, arith, length, take}
use Rattle.std.proofs.lemmas.List.Sums.{count_by-le-length}
use Rattle.std.proofs.lemmas.List.{length-take}
use Rattle.boards.proofs.Days.{kept-counted, first-twenty}
use Rattle.base.specs.Count.{keep}
use Rattle.boards.specs.inner.Daily.{falls_by}
use Rattle.boards.proofs.daily.falling.Goals as goal

pub returns : goal.returns
returns c =
    let diary = c.args.diary in
    let twenty : length diary.tests ≡ 20 = c.well_formed.0.1.1.1.0.1.0.1 in
    let those = ap (λ n. take n diary.tests) c.min.ensures ∙ first-twenty diary.count diary.tests twenty in
    record {
      exact = c.falls_in.ensures.exact ∙ kept-counted (falls_by c.args.d) _ ∙ ap (λ ts. length (keep (falls_by c.args.d) ts)) those;
      few = omega (
        arith,
        c.falls_in.ensures.exact,
        count_by-le-length (falls_by c.args.d) (take c.min.result diary.tests),
        length-take
            c.min.result diary.tests,
      );
    }
