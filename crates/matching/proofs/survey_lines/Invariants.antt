-- What all lines come to is what those from here on come to, after so many entries. Assumes nothing.
use Rattle.std.proofs.Common.{◌+◌, ◌-◌, length}
use Rattle.text.specs.Line.{split_from}
use Rattle.frame.proofs.Tries.{Tried}
use Rattle.matching.specs.Reading.{matching_layout, refused}
use Rattle.matching.specs.Survey.{counting, survey_lines}
use Rattle.matching.proofs.survey_lines.Given as goal

abbrev pub invariant-loop-to : goal.invariant-loop-to
invariant-loop-to l = Tried matching_layout refused 3 (survey_lines 0 (split_from l.text l.from)) l.text (l.n + 2) l.n (counting l.n) l.at

abbrev pub decreases-loop-to : goal.decreases-loop-to
decreases-loop-to l = length l.text - l.at
