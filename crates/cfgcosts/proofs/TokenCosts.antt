-- What each token costs, for one more token.
use Rattle.std.proofs.Common.{◌≡◌, ℕ, ◌+◌, ◌<◌, ◌++◌, List, [], ◌∷◌, length, refl, sym, ap, subst, ◌∙◌}
use Rattle.std.specs.List.{slice_index}
use Rattle.cfgindex.specs.declared.idxnewtype.TIdx.{TIdx}
use Rattle.cfgleast.proofs.Pushed.{each_push}

pub costs_more : {S : Type 0} (number : S → ℕ) → ((x y : S) → number x ≡ number y → x ≡ y) → (Post : TIdx S → ℕ → Type 0) (items new : List ℕ) (i : ℕ) (t : TIdx S) (v : ℕ)
    → length items ≡ i → new ≡ items ++ v ∷ [] → number t.0 ≡ i → Post t v → ((u : TIdx S) → number u.0 < i → Post u (slice_index items (number u.0)))
    → (u : TIdx S) → number u.0 < i + 1 → Post u (slice_index new (number u.0))
costs_more {S} number same Post items new i t v len grown at here before u below =
    each_push (λ j w. (u : TIdx S) → number u.0 ≡ j → Post u w) 0 items new i v len grown
    (λ j lt u is. subst (λ m. Post u (slice_index items m)) is (before u (subst (λ m. m < i) (sym is) lt)))
    (λ u is. let one : t ≡ u = ap (λ (x : S). record { 0 = x }) (same t.0 u.0 (at ∙ sym is)) in subst (λ u. Post u v) one here)
    (number u.0) below u refl
