-- A text that grew, cut back to what it was.
use Rattle.std.proofs.Common.{◌≡◌, ℕ, ◌≤◌, List, ◌++◌, length, take, String, Global, string_bytes, string_len, sym, ap, subst, append_assoc, ◌∙◌, arith}
use Rattle.std.specs.Str.{IsCharBoundary, IsUtf8}
use Rattle.std.specs.String.Boundary.{IsSplitPoint}
use Rattle.std.proofs.Math.Seq.{take-append_seam}
use Rattle.std.proofs.lemmas.List.Prefix.{front_fits}
use Rattle.std.proofs.lemmas.Str.{IsUtf8-string_bytes, IsCharBoundary-from_take}

-- what grows further still begins with what it was
pub grown_more : (old mid new part more : List ℕ) → mid ≡ old ++ part → new ≡ mid ++ more → (whole : List ℕ) × (new ≡ old ++ whole)
grown_more old mid new part more first then = (part ++ more, then ∙ ap (λ t. t ++ more) first ∙ append_assoc old part more)

module _ (old new : String Global) (known : ℕ) (part : List ℕ) (was : known ≡ string_len old) (grown : string_bytes new ≡ string_bytes old ++ part) where
  counted : known ≡ length (string_bytes old)
  counted = was ∙ old.bytes.ok.0

  pub cut_back : take known (string_bytes new) ≡ string_bytes old
  cut_back = ap (take known) grown ∙ ap (λ n. take n (string_bytes old ++ part)) counted ∙ take-append_seam (string_bytes old) part

  pub cut_between_characters : IsSplitPoint (string_bytes new) known
  cut_between_characters =
      let within : known ≤ length (string_bytes new) = omega (arith, front_fits _ _ part grown, counted) in
      let boundary : IsCharBoundary (string_bytes new) known =
      IsCharBoundary-from_take _ _ (IsUtf8-string_bytes new) within (subst IsUtf8 (sym cut_back) (IsUtf8-string_bytes old)) in
      (within, λ _. boundary.1)
