-- Line 1 and the entries' lines are put one after the other. Assumes nothing.
use Rattle.shorten.proofs.Kept.{match_put}
use Rattle.shorten.proofs.write.put_matching.Goals as goal

pub returns : goal.returns
returns c = match_put _ c.put-after_header.ensures c.put_entries.ensures
