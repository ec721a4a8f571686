-- The test of each number is whether its event is gone. Assumes nothing.
use Rattle.std.proofs.Common.{◌∙◌, rules, tests}
use Rattle.std.proofs.lemmas.Iterator.{YieldsList-from_slice}
use Rattle.std.proofs.lemmas.Iterator.Search.{any_from_yields_List}
use Rattle.changes.specs.Tags.{decoded}
use Rattle.course.specs.Step.{leaves}
use Rattle.steps.proofs.Searches.{any_listed}
use Rattle.steps.proofs.search.any_gone.Goals as goal

pub returns : goal.returns
returns c = λ s t.
    any_from_yields_List (λ k. leaves c.args.entries.now (decoded k)) _ _ _ c.any.ensures.ran (YieldsList-from_slice c.args.tags.now cc)
    (λ x b q k. search (rules, tests))
    ∙ any_listed c.args.entries.now s t c.args.tags.now
