-- What a caller hands in to show three texts: that it is called, and with which list. Assumes nothing.
use Rattle.std.specs.Prelude.{◌≡◌, ◌*◌, Bool, List, ⊤}
use Rattle.std.specs.Borrow.{Bor}
use Rattle.std.specs.Fn.{Once, FnOnceReturns}
use Rattle.files.specs.declared.check.Texts.{Texts}

-- It was called with these marks and with three texts.
pub record Shows {F : Type 0} (g : Once F (Bor (List Bool) × (Texts × Unit {0})) ⊤) (show : F) (marks : List Bool) : Type 0 where
  pub list : Bor (List Bool)
  pub texts : Texts
  pub under : list.now ≡ marks
  pub called : FnOnceReturns g show (list, (texts, tt)) tt
