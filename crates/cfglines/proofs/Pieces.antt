-- A text that is fed in pieces.
use Rattle.std.proofs.Common.{◌≡◌, ℕ, List, [], ◌∷◌, ◌++◌, append-nil, append_assoc, ap, sym, subst, ◌∙◌, Option, Some, Bor}
use Rattle.std.proofs.iter.Next.{Yields-more}
use Rattle.std.specs.Iterator.{Yields}
use Rattle.cfglines.specs.Lines.{joined}

pub joined_push : (pieces : List (Bor (List ℕ))) (piece : Bor (List ℕ)) → joined (pieces ++ piece ∷ []) ≡ joined pieces ++ piece.now
joined_push [] piece = append-nil _
joined_push (first ∷ pieces) piece = ap (λ rest. first.now ++ rest) (joined_push pieces piece) ∙ sym (append_assoc first.now (joined pieces) piece.now)

-- one more piece
pub taken_on : {S : Type 0} (gives : S → Option (Bor (List ℕ)) → S → Type 0) (pieces start last rest : S) (before : List (Bor (List ℕ))) (piece : Bor (List ℕ))
    → start ≡ pieces → Yields gives start before last → gives last (Some piece) rest → Yields gives pieces (before ++ piece ∷ []) rest
taken_on gives pieces start last rest before piece same taken next =
    subst (λ s. Yields gives s (before ++ piece ∷ []) rest) same (Yields-more gives start before last piece rest taken next)
