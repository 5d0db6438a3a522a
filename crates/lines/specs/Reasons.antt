-- The line of a refusal with its reason, as bytes. It ends by one byte 0a. Letters are document 01's.
--     reason_words r         the words of the reason r, a template to each
--     reason_line f at r     refused number line at: and the words
use Rattle.std.specs.Prelude.{ℕ, List, [], ◌∷◌, ◌++◌}
use Rattle.faults.specs.declared.Fault.{Fault}
use Rattle.faults.specs.Checks.{fault_number}
use Rattle.rules.specs.Lines.{decimal, worded}
use Rattle.lines.specs.declared.reasons.Reason.{Reason}
use Rattle.lines.specs.declared.reasons.Reason.TheVariants as reason

unfoldable pub reason_words : Reason → List ℕ
reason_words reason.TooLong = worded "more than 65536 bytes\n" []
reason_words reason.Empty = worded "the line is empty\n" []
reason_words (reason.CarriageReturn at) = worded "character # is a carriage return\n" (decimal at ∷ [])
reason_words (reason.Space at) = worded "character # is a space\n" (decimal at ∷ [])
reason_words (reason.Capital at) = worded "character # is a capital letter\n" (decimal at ∷ [])
reason_words (reason.NoDigit at) = worded "character # is not one of 0 to 9, a to f\n" (decimal at ∷ [])
reason_words (reason.OddNumber k) = worded "# characters, an odd number\n" (decimal k ∷ [])
reason_words reason.Unended = worded "the line has no line end\n" []
reason_words reason.NoHeader = worded "the file is empty\n" []
reason_words (reason.StringMissing i n) = worded "string # of # is missing\n" (decimal i ∷ decimal n ∷ [])
reason_words (reason.OtherKind found due) = worded "kind # in place of #\n" (decimal found ∷ decimal due ∷ [])
reason_words (reason.OtherVersion v) = worded "version # is none of 1, 2, 3\n" (decimal v ∷ [])
reason_words (reason.OtherLength found due) = worded "length # in place of #\n" (decimal found ∷ decimal due ∷ [])
reason_words (reason.StringsOut n) = worded "n # is not 1 to 10\n" (decimal n ∷ [])
reason_words (reason.CommonCostOut a) = worded "A # above 1000\n" (decimal a ∷ [])
reason_words (reason.RunOut run) = worded "N # is not 1 to 1000000\n" (decimal run ∷ [])
reason_words (reason.PeriodOut i t) = worded "string #, T # is not 1 to 1000\n" (decimal i ∷ decimal t ∷ [])
reason_words (reason.DueOut i d t) = worded "string #, D # is not 1 to T #\n" (decimal i ∷ decimal d ∷ decimal t ∷ [])
reason_words (reason.LateOut i j d) = worded "string #, J # not below D #\n" (decimal i ∷ decimal j ∷ decimal d ∷ [])
reason_words (reason.NoWork i) = worded "string #, C 0 below 1\n" (decimal i ∷ [])
reason_words (reason.WorkOut i c d) = worded "string #, C # above D #\n" (decimal i ∷ decimal c ∷ decimal d ∷ [])
reason_words (reason.LateWorkOut i c d j) =
    worded "string #, C # above D # less J #\n" (decimal i ∷ decimal c ∷ decimal d ∷ decimal j ∷ [])
reason_words (reason.PermissionOut i x) = worded "string #, X # is not 0 or 1\n" (decimal i ∷ decimal x ∷ [])
reason_words (reason.CostOut i a) = worded "string #, A # above 1000\n" (decimal i ∷ decimal a ∷ [])
reason_words (reason.Fits i t u) = worded "string #, T # brings H over 100000; T # fits\n" (decimal i ∷ decimal t ∷ decimal u ∷ [])
reason_words (reason.NoneFits i t d) =
    worded "string #, T # brings H over 100000; no T from D # on fits\n" (decimal i ∷ decimal t ∷ decimal d ∷ [])
reason_words reason.OverThousand = worded "a release after the 1000th\n" []
reason_words (reason.PlaceOut i n) = worded "place # is not 1 to #\n" (decimal i ∷ decimal n ∷ [])
reason_words (reason.NeedOut i w c) = worded "string #, need # is not 1 to C #\n" (decimal i ∷ decimal w ∷ decimal c ∷ [])
reason_words (reason.AfterRun day run) = worded "day # is not below N #\n" (decimal day ∷ decimal run ∷ [])
reason_words (reason.OutOfOrder day before) = worded "day # is before day # of the release ahead\n" (decimal day ∷ decimal before ∷ [])
reason_words (reason.BeforeDue day due) = worded "day # is before its due day #\n" (decimal day ∷ decimal due ∷ [])
reason_words (reason.TooLate day j due) =
    worded "day # is over J # days after its due day #\n" (decimal day ∷ decimal j ∷ decimal due ∷ [])
reason_words (reason.TooClose due t before) =
    worded "due day # is less than T # days after # of the same string\n" (decimal due ∷ decimal t ∷ decimal before ∷ [])

unfoldable pub reason_line : Fault → ℕ → Reason → List ℕ
reason_line f at r = worded "refused # line #: " (decimal (fault_number f) ∷ decimal at ∷ []) ++ reason_words r
