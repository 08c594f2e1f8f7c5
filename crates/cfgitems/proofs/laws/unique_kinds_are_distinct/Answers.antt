use Rattle.std.proofs.Common.{◌≡◌, ℕ, [], ◌∷◌, get_or, refl, sym, ap, ◌∙◌}
use Rattle.std.specs.Hash.{HashWrites, le_bytes}
use Rattle.cfgitems.specs.contracts.occurrence.UniqueKindHash.TheImpl.{ghosts as kinds}
use Rattle.cfgitems.specs.declared.occurrence.UniqueKind.{UniqueKind}
use Rattle.cfgitems.specs.declared.occurrence.UniqueKind.TheVariants.{Start, ActionType, Expect, ExpectReduceReduce, PrintedForm, Precedence, AvoidInsert, ImplicitToken}
use Rattle.cfgitems.proofs.laws.unique_kinds_are_distinct.Goals as goal

-- A hash is fed the kind's number, whose first byte is that number.
kind_at : ℕ → UniqueKind
kind_at number = get_or (Start ∷ ActionType ∷ Expect ∷ ExpectReduceReduce ∷ PrintedForm ∷ Precedence ∷ AvoidInsert ∷ ImplicitToken ∷ []) number Start

kind_of : HashWrites → UniqueKind
kind_of ((number ∷ others) ∷ writes) = kind_at number
kind_of ([] ∷ writes) = Start
kind_of [] = Start

kept : (kind : UniqueKind) → kind_of (kinds.hash_input kind) ≡ kind
unfolding kind_at kind_of le_bytes
kept Start = refl
kept ActionType = refl
kept Expect = refl
kept ExpectReduceReduce = refl
kept PrintedForm = refl
kept Precedence = refl
kept AvoidInsert = refl
kept ImplicitToken = refl

pub returns-clause-hash : goal.returns-clause-hash
returns-clause-hash c = λ a b. (λ same. sym (kept a) ∙ ap kind_of same ∙ kept b, λ same. ap kinds.hash_input same)
