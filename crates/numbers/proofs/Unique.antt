-- One answer to each contract of a public function: each says by an equation what it is. Assumes nothing.
use mathlib.Core.Path.{sym, ◌∙◌}
use Rattle.laws.specs.Unique.{OneAnswer}
use Rattle.numbers.proofs.answer_numbers.Reads as answer_numbers
use Rattle.numbers.proofs.count_numbers.Reads as count_numbers
use Rattle.numbers.proofs.checked_numbers.Reads as checked_numbers
use Rattle.numbers.proofs.started_numbers.Reads as started_numbers
use Rattle.numbers.proofs.flag_of.Reads as flag_of
use Rattle.numbers.proofs.run_numbers.Reads as run_numbers
use Rattle.numbers.proofs.run_numbered.Reads as run_numbered
use Rattle.numbers.proofs.step_numbers.Reads as step_numbers
use Rattle.numbers.proofs.step_numbered.Reads as step_numbered
use Rattle.numbers.proofs.form_number.Reads as form_number
use Rattle.numbers.proofs.form_numbered.Reads as form_numbered
use Rattle.numbers.proofs.marks_of.Reads as marks_of
use Rattle.numbers.proofs.listed_of.Reads as ListedOf

answer_numbers_one : OneAnswer answer_numbers.Post
answer_numbers_one κ a x y s t h k = h ∙ sym k

count_numbers_one : OneAnswer count_numbers.Post
count_numbers_one κ a x y s t h k = h ∙ sym k

checked_numbers_one : OneAnswer checked_numbers.Post
checked_numbers_one κ a x y s t h k = h ∙ sym k

started_numbers_one : OneAnswer started_numbers.Post
started_numbers_one κ a x y s t h k = h ∙ sym k

flag_of_one : OneAnswer flag_of.Post
flag_of_one κ a x y s t h k = h ∙ sym k

run_numbers_one : OneAnswer run_numbers.Post
run_numbers_one κ a x y s t h k = h ∙ sym k

run_numbered_one : OneAnswer run_numbered.Post
run_numbered_one κ a x y s t h k = h ∙ sym k

step_numbers_one : OneAnswer step_numbers.Post
step_numbers_one κ a x y s t h k = h ∙ sym k

step_numbered_one : OneAnswer step_numbered.Post
step_numbered_one κ a x y s t h k = h ∙ sym k

form_number_one : OneAnswer form_number.Post
form_number_one κ a x y s t h k = h ∙ sym k

form_numbered_one : OneAnswer form_numbered.Post
form_numbered_one κ a x y s t h k = h ∙ sym k

marks_of_one : OneAnswer marks_of.Post
marks_of_one κ a x y s t h k = h ∙ sym k

listed_of_one : OneAnswer ListedOf.Post
listed_of_one κ a x y s t h k = h ∙ sym k
