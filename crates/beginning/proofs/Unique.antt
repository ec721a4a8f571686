-- One answer and one array to each contract of a public function, each over the contract itself. Assumes nothing.
use mathlib.Core.Path.{sym, ◌∙◌}
use Rattle.laws.specs.Unique.{OneAnswer, OneOf}
use Rattle.beginning.proofs.start.Reads as start
use Rattle.beginning.proofs.start_in.Reads as start_in
use Rattle.beginning.proofs.start_listed.Reads as start_listed

start_one : OneAnswer start.Post
start_one κ a x y s t h k = h.result ∙ sym k.result

start_source : OneOf start.Post (λ κ r s. s.1.1.1.0.now)
start_source κ a x y s t h k = h.source ∙ sym k.source

start_target : OneOf start.Post (λ κ r s. s.1.1.1.1.0.now)
start_target κ a x y s t h k = h.target ∙ sym k.target

start_entries : OneOf start.Post (λ κ r s. s.1.1.1.1.1.0.now)
start_entries κ a x y s t h k = h.entries ∙ sym k.entries

start_tags : OneOf start.Post (λ κ r s. s.1.1.1.1.1.1.0.now)
start_tags κ a x y s t h k = h.left ∙ sym k.left

start_in_one : OneAnswer start_in.Post
start_in_one κ a x y s t h k = h.result ∙ sym k.result

start_in_source : OneOf start_in.Post (λ κ r s. s.1.1.1.1.0.now)
start_in_source κ a x y s t h k = h.source ∙ sym k.source

start_in_target : OneOf start_in.Post (λ κ r s. s.1.1.1.1.1.0.now)
start_in_target κ a x y s t h k = h.target ∙ sym k.target

start_in_entries : OneOf start_in.Post (λ κ r s. s.1.1.1.1.1.1.0.now)
start_in_entries κ a x y s t h k = h.entries ∙ sym k.entries

start_in_tags : OneOf start_in.Post (λ κ r s. s.1.1.1.1.1.1.1.0.now)
start_in_tags κ a x y s t h k = h.left ∙ sym k.left

start_listed_one : OneAnswer start_listed.Post
start_listed_one κ a x y s t h k = h.result ∙ sym k.result

start_listed_source : OneOf start_listed.Post (λ κ r s. s.1.1.1.1.1.0.now)
start_listed_source κ a x y s t h k = h.source ∙ sym k.source

start_listed_target : OneOf start_listed.Post (λ κ r s. s.1.1.1.1.1.1.0.now)
start_listed_target κ a x y s t h k = h.target ∙ sym k.target

start_listed_entries : OneOf start_listed.Post (λ κ r s. s.1.1.1.1.1.1.1.0.now)
start_listed_entries κ a x y s t h k = h.entries ∙ sym k.entries

start_listed_tags : OneOf start_listed.Post (λ κ r s. s.1.1.1.1.1.1.1.1.0.now)
start_listed_tags κ a x y s t h k = h.left ∙ sym k.left
