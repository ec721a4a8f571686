-- One answer, and one content of each lent part, to each contract of a public function, each over the contract itself. Assumes nothing.
use mathlib.Core.Path.{◌≡◌, refl, sym, ◌∙◌}
use Rattle.std.specs.Prelude.{Result}
use Rattle.event.specs.declared.Answer.{Answer}
use Rattle.event.proofs.Told.{tells_one}
use Rattle.laws.specs.Unique.{OneAnswer, OneOf}
use Rattle.shorten.specs.Text.{ShortSaid, Says, whole, refused}
use Rattle.shorten.specs.declared.Shortened.{Shortened}
use Rattle.shorten.proofs.shorten.Reads as shorten
use Rattle.shorten.proofs.shorten_in.Reads as shorten_in
use Rattle.shorten.proofs.shorten_listed.Reads as shorten_listed

short_one : (said : ShortSaid) (x y : Result Shortened Answer) → Says x said → Says y said → x ≡ y
short_one =
    tells_one whole refused (λ said. said.answer) (λ said. record { bytes = said.bytes; matching_bytes = said.matching_bytes }) (λ s. refl) (λ a. refl) (λ s. refl)

shorten_one : OneAnswer shorten.Post
shorten_one κ a x y s t h k = short_one _ x y h.result k.result

shorten_text : OneOf shorten.Post (λ κ r s. s.1.0.now)
shorten_text κ a x y s t h k = h.text ∙ sym k.text

shorten_matching : OneOf shorten.Post (λ κ r s. s.1.1.0.now)
shorten_matching κ a x y s t h k = h.matching ∙ sym k.matching

shorten_in_one : OneAnswer shorten_in.Post
shorten_in_one κ a x y s t h k = short_one _ x y h.result k.result

shorten_in_text : OneOf shorten_in.Post (λ κ r s. s.1.1.0.now)
shorten_in_text κ a x y s t h k = h.text ∙ sym k.text

shorten_in_matching : OneOf shorten_in.Post (λ κ r s. s.1.1.1.0.now)
shorten_in_matching κ a x y s t h k = h.matching ∙ sym k.matching

shorten_listed_one : OneAnswer shorten_listed.Post
shorten_listed_one κ a x y s t h k = short_one _ x y h.result k.result

shorten_listed_text : OneOf shorten_listed.Post (λ κ r s. s.1.1.1.0.now)
shorten_listed_text κ a x y s t h k = h.text ∙ sym k.text

shorten_listed_matching : OneOf shorten_listed.Post (λ κ r s. s.1.1.1.1.0.now)
shorten_listed_matching κ a x y s t h k = h.matching ∙ sym k.matching
