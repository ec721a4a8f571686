-- Document 01, "Runs on the bench": the cases P1 to P12 as one table, each by its three texts; and document 02, C-13, C-15, C-16
-- and C-17. Assumes nothing.
use Rattle.std.specs.Prelude.{Bool, true, ◌&&◌, List, [], ◌∷◌, ℕ, eqb, replicate}
use Prim.Native.String.{String}
use Rattle.registers.specs.Reading.{list_of}
use Rattle.event.specs.Answer.{answer, done}
use Rattle.event.specs.declared.Answer.{Answer}
use Rattle.text.specs.Word.{bytes}
use Rattle.checker.specs.Check.{Lent, lent, check_of, check_listed}

-- A case: a source, a target and a matching as texts, and the answer.
pub record Case : Type 0 where
  pub source : String
  pub target : String
  pub matching : String
  pub answer : Answer

abbrev pub given : String → String → String → Answer → Case
given s t m a = record { source = s; target = t; matching = m; answer = a }

-- Two answers are equal.
abbrev pub equal : Answer → Answer → Bool
equal a b = eqb a.number b.number && (eqb a.side b.side && eqb a.place b.place)

-- A room for three events, or for eighteen entries.
abbrev pub room : List ℕ
room = replicate 18 0

-- What a case lends.
abbrev pub lent_in : Case → Lent
lent_in c = lent (bytes c.source) (bytes c.target) (bytes c.matching) room room room

-- The check of a case gives its answer.
abbrev pub holds : Case → Bool
holds c = equal (check_of (lent_in c)).answer c.answer

abbrev pub all_hold : List Case → Bool
all_hold [] = true
all_hold (c ∷ cs) = holds c && all_hold cs

-- The same with the text of a list.
pub record Listed : Type 0 where
  pub list : String
  pub case : Case

abbrev pub under : String → Case → Listed
under l c = record { list = l; case = c }

abbrev pub listed_holds : Listed → Bool
listed_holds c = equal (check_listed (list_of 1 (bytes c.list)) (lent_in c.case)).answer c.case.answer

abbrev pub all_listed : List Listed → Bool
all_listed [] = true
all_listed (c ∷ cs) = listed_holds c && all_listed cs

-- P1 to P12.
abbrev pub table : List Case
table =
    -- P1
    given "trace\t1\n" "trace\t1\n" "match\t1\n" done
    -- P2
    ∷ given "trace\t1\nload\t1\t0\tused\nload\t1\t0\tused\n" "trace\t1\nload\t1\t0\tused\n" "match\t1\nkeep\t1\ngone\n" done
    -- P3
    ∷ given "trace\t1\nload\t1\t0\tused\nload\t1\t0\tused\n" "trace\t1\nload\t1\t0\tused\n" "match\t1\ngone\nkeep\t1\n" (answer 13 1 1)
    -- P4
    ∷ given "trace\t1\nstore\t1\t5\nstore\t1\t7\n" "trace\t1\nstore\t1\t7\n" "match\t1\ngone\nkeep\t1\n" done
    -- P5
    ∷ given "trace\t1\nstore\t1\t5\nlock\t0\nstore\t1\t7\n" "trace\t1\nlock\t0\nstore\t1\t7\n" "match\t1\ngone\nkeep\t1\nkeep\t2\n"
    (answer 14 1 1)
    -- P6
    ∷ given "trace\t1\nload\t1\t0\tused\nstore\t1\t4\nstore\t1\t0\n" "trace\t1\nload\t1\t0\tused\n" "match\t1\nkeep\t1\ngone\ngone\n" done
    -- P7
    ∷ given "trace\t1\nstore\t1\t0\n" "trace\t1\n" "match\t1\ngone\n" (answer 14 1 1)
    -- P8
    ∷ given "trace\t1\nload\t1\t0\tunused\nstore\t1\t0\n" "trace\t1\n" "match\t1\ngone\ngone\n" done
    -- P9
    ∷ given "trace\t1\nstore\t1\t5\nstore\t2\t6\n" "trace\t1\nstore\t2\t6\nstore\t1\t5\n" "match\t1\nkeep\t2\nkeep\t1\n" done
    -- P10
    ∷ given "trace\t1\nstore\t1\t5\nunlock\t0\n" "trace\t1\nunlock\t0\nstore\t1\t5\n" "match\t1\nkeep\t2\nkeep\t1\n" (answer 12 1 2)
    -- P11
    ∷ given "trace\t1\ninit\t1\t1\nload\t1\t1\tused\n" "trace\t1\ninit\t1\t1\nload\t1\t1\tused\nstore\t2\t0\n" "match\t1\nkeep\t1\n"
    (answer 15 2 2)
    ∷ given "trace\t1\ninit\t1\t1\nload\t1\t1\tused\n" "trace\t1\ninit\t1\t1\nload\t1\t1\tused\nload\t2\t0\tunused\nstore\t2\t0\n"
    "match\t1\nkeep\t1\n"
    (answer 16 2 2)
    -- P12
    ∷ given "trace\t1\nstore\t1\t5\n" "trace\t1\nstore\t1\t5\nload\t1\t5\tused\n" "match\t1\nkeep\t1\n" done
    ∷ []

-- A trace for source and target, the matching that keeps its events, and the answer.
abbrev pub kept : String → String → Answer → Case
kept t m a = given t t m a

-- C-13.
abbrev pub counters : List Case
counters =
    -- document 01's case of 4294967296 now reads
    kept "trace\t1\nstore\t1\t4294967296\n" "match\t1\nkeep\t1\n" done
    -- the greatest value, and one more
    ∷ kept "trace\t1\ninit\t1\t18446744073709551615\nload\t1\t18446744073709551615\tused\n" "match\t1\nkeep\t1\n" done
    ∷ kept "trace\t1\nstore\t1\t18446744073709551616\n" "match\t1\nkeep\t1\n" (answer 2 1 2)
    -- `add` wraps at 2^32, `add64` does not
    ∷ kept "trace\t1\ninit\t3\t4294967295\nadd\t3\trlx\t4294967295\t2\naload\t3\trlx\t1\n" "match\t1\nkeep\t1\nkeep\t2\n" done
    ∷ kept "trace\t1\ninit\t3\t4294967295\nadd64\t3\trlx\t4294967295\t2\naload\t3\trlx\t4294967297\n" "match\t1\nkeep\t1\nkeep\t2\n" done
    -- `add64` wraps at 2^64
    ∷ kept "trace\t1\ninit\t3\t18446744073709551615\nadd64\t3\trlx\t18446744073709551615\t2\naload\t3\trlx\t1\n"
    "match\t1\nkeep\t1\nkeep\t2\n"
    done
    -- `add` wants old and operand below 2^32
    ∷ kept "trace\t1\nadd\t3\trlx\t0\t4294967296\n" "match\t1\nkeep\t1\n" (answer 2 1 2)
    ∷ kept "trace\t1\ninit\t3\t4294967296\nadd\t3\trlx\t4294967296\t1\n" "match\t1\nkeep\t1\n" (answer 2 1 3)
    -- the old value is compared
    ∷ kept "trace\t2\ninit\t3\t0\nadd64\t3\trlx\t4294967296\t1\t7\n" "match\t1\nkeep\t1\n" (answer 6 1 1)
    ∷ []

-- C-15.
abbrev pub zeros : List Case
zeros =
    -- a touched location has its line, and 0 may stand there
    kept "trace\t2\ninit\t3\t0\nload\t3\t0\tused\t7\n" "match\t1\nkeep\t1\n" done
    ∷ kept "trace\t2\nload\t3\t0\tused\t7\n" "match\t1\nkeep\t1\n" (answer 20 1 1)
    ∷ given "trace\t1\nload\t3\t0\tused\n" "trace\t2\nload\t3\t0\tused\t7\n" "match\t1\nkeep\t1\n" (answer 20 2 1)
    -- form 1 stays
    ∷ kept "trace\t1\ninit\t3\t0\nload\t3\t0\tused\n" "match\t1\nkeep\t1\n" (answer 2 1 2)
    -- a zero line for an untouched location, which another value may have
    ∷ kept "trace\t2\ninit\t3\t5\ninit\t4\t0\nstore\t3\t5\t7\n" "match\t1\nkeep\t1\n" (answer 21 1 3)
    ∷ kept "trace\t2\ninit\t3\t5\nlock\t3\t7\n" "match\t1\nkeep\t1\n" done
    -- a mutex is no location
    ∷ kept "trace\t2\nlock\t3\t7\n" "match\t1\nkeep\t1\n" done
    ∷ kept "trace\t2\ninit\t3\t0\nlock\t3\t7\n" "match\t1\nkeep\t1\n" (answer 21 1 2)
    -- 2 first, then 20, then 21, then 6
    ∷ kept "trace\t2\nload\t4\t0\tused\t7\nload\n" "match\t1\nkeep\t1\n" (answer 2 1 3)
    ∷ kept "trace\t2\ninit\t3\t0\nload\t4\t0\tused\t7\n" "match\t1\nkeep\t1\n" (answer 20 1 1)
    ∷ kept "trace\t2\ninit\t3\t0\ninit\t4\t0\nload\t4\t1\tused\t7\n" "match\t1\nkeep\t1\n" (answer 21 1 2)
    ∷ []

-- C-17.
abbrev pub exchanges : List Case
exchanges =
    -- kept, in both forms and between them, with each of its orders; what comes after finds the cell as it was
    kept "trace\t1\ninit\t3\t5\ncmpfail\t3\trlx\t5\ncmpfail\t3\tacq\t5\naload\t3\trlx\t5\n" "match\t1\nkeep\t1\nkeep\t2\nkeep\t3\n" done
    ∷ given "trace\t1\ncmpfail\t3\tsc\t0\n" "trace\t2\ninit\t3\t0\ncmpfail\t3\tsc\t0\t7\n" "match\t1\nkeep\t1\n" done
    -- "its value must be the latest"
    ∷ kept "trace\t1\nastore\t3\trlx\t5\ncmpfail\t3\trlx\t0\n" "match\t1\nkeep\t1\nkeep\t2\n" (answer 6 1 2)
    ∷ kept "trace\t2\ninit\t3\t5\ncmpfail\t3\trlx\t4\t7\n" "match\t1\nkeep\t1\n" (answer 6 1 1)
    -- no other order, and one value
    ∷ kept "trace\t1\ncmpfail\t3\trel\t0\n" "match\t1\nkeep\t1\n" (answer 2 1 2)
    ∷ kept "trace\t1\ncmpfail\t3\tar\t0\n" "match\t1\nkeep\t1\n" (answer 2 1 2)
    ∷ kept "trace\t2\ninit\t3\t0\ncmpfail\t3\trel\t0\t7\n" "match\t1\nkeep\t1\n" (answer 2 1 3)
    ∷ kept "trace\t1\ncmpfail\t3\trlx\t0\t0\n" "match\t1\nkeep\t1\n" (answer 2 1 2)
    -- it is atomic
    ∷ kept "trace\t1\nload\t3\t0\tused\ncmpfail\t3\trlx\t0\n" "match\t1\nkeep\t1\nkeep\t2\n" (answer 5 1 2)
    -- "it matches only a `cmpfail` with equal fields"
    ∷ given "trace\t1\ncmpfail\t3\trlx\t0\n" "trace\t1\naload\t3\trlx\t0\n" "match\t1\nkeep\t1\n" (answer 10 1 1)
    ∷ given "trace\t1\nrmw\t3\trlx\t0\t0\n" "trace\t1\ncmpfail\t3\trlx\t0\n" "match\t1\nkeep\t1\n" (answer 10 1 1)
    ∷ given "trace\t1\ncmpfail\t3\trlx\t0\n" "trace\t1\ncmpfail\t3\tacq\t0\n" "match\t1\nkeep\t1\n" (answer 10 1 1)
    -- "it is synchronising": never gone, swapped, inserted or spanned
    ∷ given "trace\t1\ncmpfail\t3\trlx\t0\ncmpfail\t3\trlx\t0\n" "trace\t1\ncmpfail\t3\trlx\t0\n" "match\t1\nkeep\t1\ngone\n" (answer 11 1 2)
    ∷ given "trace\t1\nstore\t1\t5\ncmpfail\t3\trlx\t0\n" "trace\t1\ncmpfail\t3\trlx\t0\nstore\t1\t5\n" "match\t1\nkeep\t2\nkeep\t1\n"
    (answer 12 1 2)
    ∷ given "trace\t1\ncmpfail\t3\trlx\t0\n" "trace\t1\ncmpfail\t3\trlx\t0\ncmpfail\t3\trlx\t0\n" "match\t1\nkeep\t1\n" (answer 15 2 2)
    ∷ given "trace\t1\nload\t1\t0\tused\ncmpfail\t3\trlx\t0\nload\t1\t0\tused\n" "trace\t1\nload\t1\t0\tused\ncmpfail\t3\trlx\t0\n"
    "match\t1\nkeep\t1\nkeep\t2\ngone\n"
    (answer 13 1 3)
    ∷ []

-- Under a list of location 3.
abbrev pub at_3 : Case → Listed
at_3 c = under "regs\t1\nreg\t3\n" c

-- C-16.
abbrev pub registers : List Listed
registers =
    -- "kept", with whatever value
    at_3 (kept "trace\t1\nload\t3\t7\tused\nload\t3\t8\tunused\nstore\t3\t9\n" "match\t1\nkeep\t1\nkeep\t2\nkeep\t3\n" done)
    -- a load and a store of it that are gone, which P2 and P4 let go
    ∷ at_3 (given "trace\t1\nload\t3\t0\tused\nload\t3\t0\tused\n" "trace\t1\nload\t3\t0\tused\n" "match\t1\nkeep\t1\ngone\n" (answer 11 1 2))
    ∷ at_3 (given "trace\t1\nstore\t3\t5\nstore\t3\t7\n" "trace\t1\nstore\t3\t7\n" "match\t1\ngone\nkeep\t1\n" (answer 11 1 1))
    -- "never ... swapped", which P9 lets pass
    ∷ at_3 (given "trace\t1\nstore\t3\t5\nstore\t2\t6\n" "trace\t1\nstore\t2\t6\nstore\t3\t5\n" "match\t1\nkeep\t2\nkeep\t1\n" (answer 12 1 2))
    -- "never inserted (16 for a load, 15 for a store)", of which P12 lets the load pass
    ∷ at_3 (given "trace\t1\nstore\t3\t5\n" "trace\t1\nstore\t3\t5\nload\t3\t5\tused\n" "match\t1\nkeep\t1\n" (answer 16 2 2))
    ∷ at_3 (given "trace\t1\nstore\t3\t5\n" "trace\t1\nstore\t3\t5\nstore\t3\t5\n" "match\t1\nkeep\t1\n" (answer 15 2 2))
    -- "near accesses don't span it"
    ∷ at_3 (given "trace\t1\nload\t1\t0\tused\nload\t3\t0\tused\nload\t1\t0\tused\n" "trace\t1\nload\t1\t0\tused\nload\t3\t0\tused\n"
    "match\t1\nkeep\t1\nkeep\t2\ngone\n"
    (answer 13 1 3))
    -- "Answers 6 and 7 skip listed locations", and those alone
    ∷ at_3 (given "trace\t1\ninit\t3\t1\nload\t3\t7\tused\n" "trace\t1\ninit\t3\t2\nload\t3\t7\tused\n" "match\t1\nkeep\t1\n" done)
    ∷ at_3 (kept "trace\t1\nload\t4\t7\tused\n" "match\t1\nkeep\t1\n" (answer 6 1 1))
    ∷ at_3 (given "trace\t1\ninit\t4\t1\n" "trace\t1\ninit\t4\t2\n" "match\t1\n" (answer 7 2 4))
    -- "an atomic use of a listed location is 5 at that event"
    ∷ at_3 (kept "trace\t1\nload\t1\t0\tused\naload\t3\trlx\t0\n" "match\t1\nkeep\t1\nkeep\t2\n" (answer 5 1 2))
    ∷ at_3 (kept "trace\t1\ncmpfail\t3\trlx\t0\n" "match\t1\nkeep\t1\n" (answer 5 1 1))
    -- a mutex is no location
    ∷ at_3 (kept "trace\t1\nlock\t3\n" "match\t1\nkeep\t1\n" done)
    -- a list of none
    ∷ under "regs\t1\n" (given "trace\t1\nstore\t3\t5\n" "trace\t1\nstore\t3\t5\nload\t3\t5\tused\n" "match\t1\nkeep\t1\n" done)
    -- a list's refusals, "ahead of the source's answers"
    ∷ under "regs\t1\nreg\t3\nreg\t3\n" (kept "trace\t3\n" "match\t1\n" (answer 22 4 3))
    ∷ under "regs\t1\nreg\t256\n" (kept "trace\t3\n" "match\t1\n" (answer 2 4 2))
    ∷ under "" (kept "trace\t3\n" "match\t1\n" (answer 2 4 1))
    ∷ at_3 (kept "trace\t3\n" "match\t1\n" (answer 2 1 1))
    ∷ []
