-- Document 02, C-19: shortened traces of the sources of P1, P2 and P4 to P8, and of two more, by computing; each with its entries. Assumes nothing.
use mathlib.Core.Path.{◌≡◌, refl}
use mathlib.Core.Bool.{true, false}
use mathlib.Core.List.{List, [], ◌∷◌}
use Prim.Native.Nat.{ℕ}
use Rattle.rules.specs.View.{View, wall, load, store}
use Rattle.shelf.specs.Short.{short, entries}

-- what is seen of a trace, what stays of it, and the entries
pub record Case : Type 0 where
  pub long : List View
  pub brief : List View
  pub names : List ℕ

abbrev Holds : Case → Type 0
Holds c = (short (λ (v : View). v) c.long ≡ c.brief) × (entries (λ (v : View). v) c.long ≡ c.names)

abbrev All : List Case → Type 0
All [] = Unit {0}
All (c ∷ cs) = Holds c × All cs

abbrev pub table : List Case
table =
    record { long = []; brief = []; names = [] }
    ∷ record { long = load 1 0 true ∷ load 1 0 true ∷ []; brief = load 1 0 true ∷ []; names = 1 ∷ 0 ∷ [] }
    ∷ record { long = store 1 5 ∷ store 1 7 ∷ []; brief = store 1 7 ∷ []; names = 0 ∷ 1 ∷ [] }
    ∷ record { long = store 1 5 ∷ wall ∷ store 1 7 ∷ []; brief = store 1 5 ∷ wall ∷ store 1 7 ∷ []; names = 1 ∷ 2 ∷ 3 ∷ [] }
    ∷ record { long = load 1 0 true ∷ store 1 4 ∷ store 1 0 ∷ []; brief = load 1 0 true ∷ []; names = 1 ∷ 0 ∷ 0 ∷ [] }
    ∷ record { long = store 1 0 ∷ []; brief = store 1 0 ∷ []; names = 1 ∷ [] }
    ∷ record { long = load 1 0 false ∷ store 1 0 ∷ []; brief = []; names = 0 ∷ 0 ∷ [] }
    ∷ record { long = load 1 0 false ∷ store 1 3 ∷ store 2 6 ∷ load 1 3 true ∷ []; brief = store 1 3 ∷ store 2 6 ∷ []; names = 0 ∷ 1 ∷ 2 ∷ 0 ∷ [] }
    ∷ record { long = store 1 1 ∷ load 1 1 true ∷ store 1 2 ∷ store 1 1 ∷ []; brief = store 1 1 ∷ []; names = 0 ∷ 0 ∷ 0 ∷ 1 ∷ [] }
    ∷ []

pub shortened : All table
shortened =
    ((refl, refl), ((refl, refl), ((refl, refl), ((refl, refl), ((refl, refl), ((refl, refl), ((refl, refl), ((refl, refl), ((refl, refl), tt)))))))))
