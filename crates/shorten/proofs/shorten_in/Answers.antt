-- The survey's refusal, or both texts by the flags. Assumes nothing.
use Rattle.std.proofs.Common.{rules}
use Rattle.shorten.proofs.Surveyed.{survey_refuses, survey_few, survey_small, survey_small_2, survey_writes}
use Rattle.shorten.proofs.shorten_in.Goals as goal

pub returns-in_err-held : goal.returns-in_err-held
returns-in_err-held c =
    let e = c.in_err-held.ensures in
    let told = survey_refuses c.args.listed.now c.args.text.now c.args.out.now c.args.matching_out.now _ e.0 e.1 in
    search (rules, e, told)

pub stay_flags-flags-requires : goal.stay_flags-flags-requires
stay_flags-flags-requires c = survey_few c.args.listed.now c.args.text.now c.in_ok-held.ensures

pub write_both-requires-clause-small : goal.write_both-requires-clause-small
write_both-requires-clause-small c =
    survey_small c.args.listed.now c.args.text.now c.in_ok-held.ensures _ c.stay_flags-flags.ensures _ c.touch_kept.ensures

pub write_both-requires-clause-small_2 : goal.write_both-requires-clause-small_2
write_both-requires-clause-small_2 c = survey_small_2 c.args.listed.now c.args.text.now c.in_ok-held.ensures _ c.stay_flags-flags.ensures

pub returns : goal.returns
returns c =
    survey_writes c.args.listed.now c.args.text.now c.in_ok-held.ensures _ c.stay_flags-flags.ensures _ c.touch_kept.ensures c.write_both.ensures
