-- One answer to each contract of a public function, and one array of ways. Assumes nothing.
use mathlib.Core.Path.{sym, ◌∙◌}
use Rattle.event.proofs.Told.{passes_one}
use Rattle.laws.specs.Unique.{OneAnswer, OneOf}
use Rattle.uses.proofs.use_listed.Reads as use_listed
use Rattle.uses.proofs.touch.Reads as touch
use Rattle.uses.proofs.cover.lacks_line.Reads as lacks_line
use Rattle.uses.proofs.cover.idle_fault.Reads as idle_fault

use_listed_one : OneAnswer use_listed.Post
use_listed_one κ a x y s t h k = h.0 ∙ sym k.0

use_listed_ways : OneOf use_listed.Post (λ κ r s. s.1.0.now)
use_listed_ways κ a x y s t h k = h.1 ∙ sym k.1

touch_ways : OneOf touch.Post (λ κ r s. s.0.now)
touch_ways κ a x y s t h k = h ∙ sym k

lacks_line_one : OneAnswer lacks_line.Post
lacks_line_one κ a x y s t h k = h ∙ sym k

idle_fault_one : OneAnswer idle_fault.Post
idle_fault_one κ a x y s t h k = passes_one _ x y h k
