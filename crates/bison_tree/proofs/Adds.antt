-- What is added in turn is added at once.
use Rattle.std.proofs.Common.{◌≡◌, List, ◌++◌, fold}
use Rattle.std.proofs.lemmas.List.Sums.{fold-append}
use Rattle.cfgitems.specs.Building.{add}
use Rattle.cfgitems.specs.Items.{Item}
use Rattle.cfgitems.specs.Syntax.{Syntax}

pub adds_append : (s : Syntax) (xs ys : List Item) → fold add s (xs ++ ys) ≡ fold add (fold add s xs) ys
adds_append s xs ys = fold-append add s xs ys
