-- Texts for numbers, and one more.
use Rattle.std.proofs.Common.{◌≡◌, ℕ, ◌+◌, ◌<◌, List, [], ◌∷◌, ◌++◌, length, get_or, refl, sym, subst, ap, ◌∙◌, append-nil, inl, inr, arith}
use Rattle.std.specs.List.{concat}
use Rattle.std.proofs.lemmas.List.{length-append, get_or_append_left}
use Rattle.std.proofs.lemmas.Bool.{cases_lt}
use Rattle.std.proofs.lemmas.List.Folds.{concat-append}
use Rattle.std.proofs.Math.Seq.{get_or-append_seam}
use Rattle.cfgtool.specs.SentenceLines.{ReportsEach}

module _ (Reports : ℕ → List ℕ → Type 0) where
  pub none_reported : ReportsEach Reports 0 []
  none_reported = record { texts = []; counted = refl; each = λ r within. absurd (omega (arith, within)); reported = refl }

  pub one_more_reported : (n : ℕ) (lines text : List ℕ) → ReportsEach Reports n lines → Reports n text → ReportsEach Reports (n + 1) (lines ++ text)
  one_more_reported n lines text before here = record {
    texts = before.texts ++ (text ∷ []);
    counted = omega (arith, before.counted, length-append before.texts (text ∷ []));
    each = each;
    reported = ap (λ t. t ++ text) before.reported ∙ ap (λ t. concat before.texts ++ t) (sym (append-nil text)) ∙ sym (concat-append before.texts (text ∷ []));
  }
    where
      at_end : (r : ℕ) → r ≡ length before.texts → Reports r (get_or (before.texts ++ (text ∷ [])) r [])
      at_end r e = subst (λ k. Reports k (get_or (before.texts ++ (text ∷ [])) k [])) (sym e)
          (subst (Reports (length before.texts)) (sym (get_or-append_seam before.texts text [] []))
          (subst (λ k. Reports k text) (sym before.counted) here))

      each : (r : ℕ) → r < length (before.texts ++ (text ∷ [])) → Reports r (get_or (before.texts ++ (text ∷ [])) r [])
      each r within = elim (cases_lt r (length before.texts)) [
        | inl below ↦ subst (Reports r) (sym (get_or_append_left before.texts (text ∷ []) [] r below)) (before.each r below)
        | inr above ↦ at_end r (omega (arith, above, within, length-append before.texts (text ∷ [])))
      ]
