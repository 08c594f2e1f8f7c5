-- If the derived `==` equates two values of an enum, a view shows the same of both, provided that it does for the variants with fields.
use Rattle.std.proofs.Common.{◌≡◌, refl, Bool, true, false, List, [], ◌∷◌, inl, inr}
use Rattle.std.proofs.lemmas.Bool.{false≢true}
use denote.Struct.Field.{Field}
use denote.Struct.Values.{Values}
use denote.Enum.Declared.{Choice}
use denote.Enum.Compared.{Each, by}

-- for each variant with fields
abbrev pub ShowsSame : {X : Type 0} (Fss : List (List Field)) → Each Bool Fss → (Choice Fss → X) → Type 0
ShowsSame [] each view = Unit {0}
ShowsSame ([] ∷ Fss) each view = ShowsSame Fss each.1 (λ c. view (inr c))
ShowsSame ((F ∷ Fs) ∷ Fss) each view =
    ((xs ys : Values (F ∷ Fs)) → each.0 xs ys ≡ true → view (inl xs) ≡ view (inl ys)) × ShowsSame Fss each.1 (λ c. view (inr c))

pub shows_same : {X : Type 0} (Fss : List (List Field)) (each : Each Bool Fss) (view : Choice Fss → X) → ShowsSame Fss each view
    → (c d : Choice Fss) → by false false Fss each c d ≡ true → view c ≡ view d
shows_same [] each view all c d h = absurd c
shows_same ([] ∷ Fss) each view all (inl xs) (inl ys) h = refl
shows_same ([] ∷ Fss) each view all (inr c) (inr d) h = shows_same Fss each.1 (λ c. view (inr c)) all c d h
shows_same ((F ∷ Fs) ∷ Fss) each view all (inl xs) (inl ys) h = all.0 xs ys h
shows_same ((F ∷ Fs) ∷ Fss) each view all (inr c) (inr d) h = shows_same Fss each.1 (λ c. view (inr c)) all.1 c d h
shows_same (Fs ∷ Fss) each view all (inl xs) (inr d) h = absurd (false≢true h)
shows_same (Fs ∷ Fss) each view all (inr c) (inl ys) h = absurd (false≢true h)
