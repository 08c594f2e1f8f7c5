-- What is written for each number below one, or for those that are kept.
use Rattle.std.proofs.Common.{◌≡◌, ℕ, ◌+◌, Bool, true, false, cond, List, [], ◌∷◌, ◌++◌, append-nil, append_assoc, arith, codes, refl, sym, ap, ◌∙◌}
use Rattle.std.specs.List.{filter, flat_map, range_with_len}
use Rattle.std.proofs.lemmas.List.{flat_map_more, map-id}
use Rattle.std.proofs.lemmas.List.Concat.{flat_map-append}
use Rattle.std.proofs.lemmas.List.Elements.{filter-append}
use Rattle.std.proofs.lemmas.List.FromFn.{map-range_with_len_more}
use Rattle.cfgrammar.specs.Numbered.{Numbered}
use Rattle.bison_findings.specs.Shown.{token_text, tokens_text}

range_more : (n : ℕ) → range_with_len 0 (n + 1) ≡ range_with_len 0 n ++ n ∷ []
range_more n =
    sym (map-id (range_with_len 0 (n + 1))) ∙ map-range_with_len_more (λ k. k) 0 n n (omega arith) ∙ ap (λ xs. xs ++ n ∷ []) (map-id (range_with_len 0 n))

-- the text for one more number
pub written_more : (text : ℕ → List ℕ) (n : ℕ) (before written after : List ℕ) → written ≡ before ++ flat_map text (range_with_len 0 n)
    → after ≡ written ++ text n → after ≡ before ++ flat_map text (range_with_len 0 (n + 1))
written_more text n before written after is added =
    added ∙ ap (λ t. t ++ text n) is ∙ flat_map_more text before (range_with_len 0 n) n ∙ ap (λ ns. before ++ flat_map text ns) (sym (range_more n))

-- what is written before one more token
abbrev separator_after : List ℕ → List ℕ
separator_after [] = []
separator_after (t ∷ tokens) = codes ", "

separated_more : (tokens : List ℕ) (t : ℕ) → separator_after (tokens ++ t ∷ []) ≡ codes ", "
separated_more [] t = refl
separated_more (other ∷ tokens) t = refl

module _ (g : Numbered) (test : ℕ → Bool) where
  tokens_more : (tokens : List ℕ) (t : ℕ) → tokens_text g (tokens ++ t ∷ []) ≡ tokens_text g tokens ++ (separator_after tokens ++ token_text g t)
  tokens_more [] t = append-nil (token_text g t)
  tokens_more (first ∷ rest) t =
      ap (λ l. token_text g first ++ l) (flat_map-append (λ other. codes ", " ++ token_text g other) rest (t ∷ [])
      ∙ ap (λ l. flat_map (λ other. codes ", " ++ token_text g other) rest ++ l) (append-nil (codes ", " ++ token_text g t)))
      ∙ sym (append_assoc (token_text g first) (flat_map (λ other. codes ", " ++ token_text g other) rest) (codes ", " ++ token_text g t))

  abbrev kept : ℕ → List ℕ
  kept n = filter test (range_with_len 0 n)

  kept_with : (n : ℕ) (b : Bool) → test n ≡ b → kept (n + 1) ≡ kept n ++ cond b (n ∷ []) []
  kept_with n b is = ap (filter test) (range_more n) ∙ filter-append test (range_with_len 0 n) (n ∷ []) ∙ ap (λ b. kept n ++ cond b (n ∷ []) []) is

  -- the numbers below this one that are kept are written after `before`, and what is written before one more
  pub record AreWritten (before text next : List ℕ) (n : ℕ) : Type 0 where
    pub tokens : text ≡ before ++ tokens_text g (kept n)
    pub separator : next ≡ separator_after (kept n)

  pub kept_more : (n : ℕ) (before text separator separated text' separator' : List ℕ) → AreWritten before text separator n → test n ≡ true
      → separated ≡ text ++ separator → text' ≡ separated ++ token_text g n → separator' ≡ codes ", " → AreWritten before text' separator' (n + 1)
  kept_more n before text separator separated text' separator' w on one two is = record {
    tokens = two ∙ ap (λ t. t ++ token_text g n) (one ∙ (λ i. w.tokens i ++ w.separator i)
        ∙ append_assoc before (tokens_text g (kept n)) (separator_after (kept n)))
        ∙ append_assoc before (tokens_text g (kept n) ++ separator_after (kept n)) (token_text g n)
        ∙ ap (λ l. before ++ l) (append_assoc (tokens_text g (kept n)) (separator_after (kept n)) (token_text g n)
        ∙ sym (tokens_more (kept n) n) ∙ ap (λ ns. tokens_text g ns) (sym (kept_with n true on)));
    separator = is ∙ sym (separated_more (kept n) n) ∙ ap separator_after (sym (kept_with n true on));
  }

  pub kept_fewer : (n : ℕ) (before text separator text' separator' : List ℕ) → AreWritten before text separator n → test n ≡ false
      → text' ≡ text → separator' ≡ separator → AreWritten before text' separator' (n + 1)
  kept_fewer n before text separator text' separator' w off one two =
      let same = kept_with n false off ∙ append-nil (kept n) in
      record {
        tokens = one ∙ w.tokens ∙ ap (λ ns. before ++ tokens_text g ns) (sym same);
        separator = two ∙ w.separator ∙ ap separator_after (sym same);
      }
