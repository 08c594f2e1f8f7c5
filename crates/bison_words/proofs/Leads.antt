-- What reading a construct leads to. A state is the rest of the text, and the offset where the last word so far ends that isn't a fault.
use Rattle.std.proofs.Common.{◌≡◌, ℕ, ◌≤◌, Bool, true, false, List, [], ◌∷◌, ◌++◌, fold, Option, Some, None, Result, Ok, Err, cond, sym, subst}
use Rattle.std.proofs.lemmas.List.Sums.{fold-append}
use Rattle.constructs.specs.Read as read
use Rattle.constructs.specs.Read.{Read, prefixed, Exactly, Then, on, off, Case, begins, other, Choice, where_true, where_false, WordOr, found, missing}
use Rattle.constructs.specs.Silent.{Silently}
use Rattle.constructs.specs.Turns as turns
use Rattle.constructs.specs.Turns.{Turn, Turns, with_value, turn_outcome, OneOf, one, Many}
use Rattle.constructs.specs.Leaves.{OneOrEnd, Less}
use Rattle.constructs.specs.Construct.{Construct, repeat, Says}
use Rattle.cfgwords.specs.TextSpans.{IsPiece}
use Rattle.bison_words.specs.Words.{Item, WordRead, FaultRead, EpilogueRead}
use Rattle.bison_words.specs.WordSpans.{IsWordAt, is_fault}

abbrev pub IsItemAt : List ℕ → ℕ → Item → Type 0
IsItemAt whole done (WordRead word) = IsWordAt whole word × (is_fault word.lexeme ≡ false → done ≤ word.span.start)
IsItemAt whole done (FaultRead fault) = IsPiece whole fault.span
IsItemAt whole done (EpilogueRead text) = Unit {0}

abbrev pub done_after : ℕ → Item → ℕ
done_after done (WordRead word) = cond (is_fault word.lexeme) done word.span.end
done_after done _ = done

abbrev pub AreItemsAt : List ℕ → ℕ → List Item → Type 0
AreItemsAt whole done [] = Unit {0}
AreItemsAt whole done (item ∷ items) = IsItemAt whole done item × AreItemsAt whole (done_after done item) items

pub items_append : (whole : List ℕ) (done : ℕ) (xs ys : List Item) → AreItemsAt whole done xs → AreItemsAt whole (fold done_after done xs) ys
    → AreItemsAt whole done (xs ++ ys)
items_append whole done [] ys p q = q
items_append whole done (x ∷ xs) ys p q = (p.0, items_append whole (done_after done x) xs ys p.1 q)

-- how a reading ended
abbrev pub EndsAt : {A : Type 0} → (A → List ℕ → ℕ → Type 0) → ℕ → Result (A × List ℕ) ⊥ → Type 0
EndsAt U done (Ok (a, rest)) = U a rest done
EndsAt U done (Err fault) = ⊥

pub record Ends {A : Type 0} (whole : List ℕ) (U : A → List ℕ → ℕ → Type 0) (done : ℕ) (r : Read Item ⊥ A) : Type 0 where
  pub items : AreItemsAt whole done r.items
  pub outcome : EndsAt U (fold done_after done r.items) r.outcome

-- from a state, each reading that has P
pub record Gets {A : Type 0} (whole : List ℕ) (P : Read Item ⊥ A → Type 0) (done : ℕ) (U : A → List ℕ → ℕ → Type 0) : Type 0 where
  pub ends : (r : Read Item ⊥ A) → P r → Ends whole U done r

-- from each state that has T
pub record Leads {A : Type 0} (whole : List ℕ) (T T' : List ℕ → ℕ → Type 0) (R : List ℕ → Read Item ⊥ A → Type 0) : Type 0 where
  pub gets : (text : List ℕ) (done : ℕ) → T text done → Gets whole (R text) done (λ _. T')

-- items before a reading
pub prefixed_ends : {A : Type 0} {U : A → List ℕ → ℕ → Type 0} (whole : List ℕ) (done : ℕ) (items : List Item) (r : Read Item ⊥ A)
    → AreItemsAt whole done items → Ends whole U (fold done_after done items) r → Ends whole U done (prefixed items r)
prefixed_ends {U = U} whole done items r p e = record {
  items = items_append whole done items r.items p e.items;
  outcome = subst (λ done. EndsAt U done r.outcome) (sym (fold-append done_after done items r.items)) e.outcome;
}

module _ {whole : List ℕ} {A : Type 0} {done : ℕ} {U : A → List ℕ → ℕ → Type 0} where
  pub weaker_gets : {V : A → List ℕ → ℕ → Type 0} {P : Read Item ⊥ A → Type 0} → ((a : A) (rest : List ℕ) (done : ℕ) → V a rest done → U a rest done)
      → Gets whole P done V → Gets whole P done U
  weaker_gets {V = V} h p = record { ends = λ r is. let e = p.ends r is in record { items = e.items; outcome = go _ r.outcome e.outcome } }
    where
      go : (done : ℕ) (o : Result (A × List ℕ) ⊥) → EndsAt V done o → EndsAt U done o
      go done (Ok (a, rest)) v = h a rest done v
      go done (Err fault) v = v

  pub gives_gets : {a : A} {text : List ℕ} → U a text done → Gets whole (Exactly (read.gives a) text) done U
  gives_gets u = record { ends = λ r e. subst (Ends whole U done) e (record { items = tt; outcome = u }) }

  pub then_gets : {B : Type 0} {text : List ℕ} {G : List ℕ → Read Item ⊥ B → Type 0} {H : B → List ℕ → Read Item ⊥ A → Type 0}
      → Gets whole (G text) done (λ b rest done. Gets whole (H b rest) done U) → Gets whole (Then G H text) done U
  then_gets {text = text} {G = G} {H = H} p = record { ends = go }
    where
      go : (r : Read Item ⊥ A) → Then G H text r → Ends whole U done r
      go r (on items b rest r' e1 e2) = let first = p.ends _ e1 in prefixed_ends whole done items r' first.items (first.outcome.ends r' e2)
      go r (off items fault e) = absurd fault

  pub case_gets : {word text : List ℕ} {G H : List ℕ → Read Item ⊥ A → Type 0}
      → ((rest : List ℕ) → text ≡ word ++ rest → Gets whole (G rest) done U) → Gets whole (H text) done U → Gets whole (Case word G H text) done U
  case_gets {word = word} {text = text} {G = G} {H = H} p q = record { ends = go }
    where
      go : (r : Read Item ⊥ A) → Case word G H text r → Ends whole U done r
      go r (begins rest e g) = (p rest e).ends r g
      go r (other none h) = q.ends r h

  pub test_gets : {test : List ℕ → Bool} {text : List ℕ} {G H : List ℕ → Read Item ⊥ A → Type 0}
      → (test text ≡ true → Gets whole (G text) done U) → Gets whole (H text) done U → Gets whole (Choice test G H text) done U
  test_gets {test = test} {text = text} {G = G} {H = H} p q = record { ends = go }
    where
      go : (r : Read Item ⊥ A) → Choice test G H text r → Ends whole U done r
      go r (where_true e g) = (p e).ends r g
      go r (where_false e h) = q.ends r h

  pub choice_gets : {test : List ℕ → Bool} {text : List ℕ} {G H : List ℕ → Read Item ⊥ A → Type 0}
      → Gets whole (G text) done U → Gets whole (H text) done U → Gets whole (Choice test G H text) done U
  choice_gets p q = test_gets (λ _. p) q

  pub word_gets : {W B : Type 0} {text : List ℕ} {Word : List ℕ → W → List ℕ → Type 0} {value : List ℕ → W → List ℕ → B}
      {G : B → List ℕ → Read Item ⊥ A → Type 0} {H : List ℕ → Read Item ⊥ A → Type 0}
      → ((word : W) (rest : List ℕ) → Word text word rest → Gets whole (G (value text word rest) rest) done U) → Gets whole (H text) done U
      → Gets whole (WordOr Word value G H text) done U
  word_gets {text = text} {Word = Word} {value = value} {G = G} {H = H} p q = record { ends = go }
    where
      go : (r : Read Item ⊥ A) → WordOr Word value G H text r → Ends whole U done r
      go r (found word rest e g) = (p word rest e).ends r g
      go r (missing none h) = q.ends r h

  pub silently_gets : {text : List ℕ} {Is : List ℕ → Result (A × List ℕ) ⊥ → Type 0}
      → ((a : A) (rest : List ℕ) → Is text (Ok (a, rest)) → U a rest done) → Gets whole (Silently Is text) done U
  silently_gets {text = text} {Is = Is} h = record { ends = λ r s. go r.items r.outcome s.silent s.outcome }
    where
      go : (items : List Item) (o : Result (A × List ℕ) ⊥) → items ≡ [] → Is text o → Ends whole U done (record { items = items; outcome = o })
      go items (Ok (a, rest)) e is = subst (λ items. Ends whole U done (record { items = items; outcome = Ok (a, rest) })) (sym e) (record { items = tt; outcome = h a rest is })
      go items (Err fault) e is = absurd fault

pub emits_gets : {whole text : List ℕ} {done : ℕ} {U : Unit {0} → List ℕ → ℕ → Type 0} {item : Item}
    → IsItemAt whole done item → U tt text (done_after done item) → Gets whole (Exactly (read.emits item) text) done U
emits_gets {whole = whole} {done = done} {U = U} p u = record { ends = λ r e. subst (Ends whole U done) e (record { items = (p, tt); outcome = u }) }

-- Repetition: what holds of a state and of what its turn completes

pub record Onward {R : Type 0} (T : List ℕ → ℕ → Type 0) (W : ℕ → R → Type 0) (done : ℕ) (complete : R → R) (rest : List ℕ) : Type 0 where
  pub later : ℕ
  pub there : T rest later
  pub completes : (r : R) → W later r → W done (complete r)

abbrev pub TurnLeads : {R : Type 0} → (List ℕ → ℕ → Type 0) → (ℕ → R → Type 0) → ℕ → Turn R → Type 0
TurnLeads T W done (turns.again complete rest) = Onward T W done complete rest
TurnLeads T W done (turns.ends r) = W done r

pub turns_lead : {R : Type 0} {Step : List ℕ → Turn R → Type 0} (T : List ℕ → ℕ → Type 0) (W : ℕ → R → Type 0)
    → ((text : List ℕ) (done : ℕ) (turn : Turn R) → T text done → Step text turn → TurnLeads T W done turn)
    → (text : List ℕ) (done : ℕ) (r : R) → T text done → Turns Step text r → W done r
turns_lead T W step text done r t (turns.last there) = step text done _ t there
turns_lead T W step text done r t (turns.next {rest = rest} {r = r'} there further) =
    let onward = step text done _ t there in onward.completes r' (turns_lead T W step rest onward.later r' onward.there further)

module _ {whole : List ℕ} {A : Type 0} {T : List ℕ → ℕ → Type 0} {G : List ℕ → Read Item ⊥ (Option A) → Type 0} (p : Leads whole T T G) where
  longer : (a : A) (done : ℕ) (o : Result (List A × List ℕ) ⊥) → EndsAt (λ _. T) done o → EndsAt (λ _. T) done (with_value a o)
  longer a done (Ok (values, rest)) t = t
  longer a done (Err fault) t = t

  turn_leads : (done : ℕ) (items : List Item) (o : Result (Option A × List ℕ) ⊥) → AreItemsAt whole done items → EndsAt (λ _. T) (fold done_after done items) o
      → TurnLeads T (Ends whole (λ _. T)) done (turn_outcome items o)
  turn_leads done items (Ok (Some a, rest)) each t = record {
    later = fold done_after done items;
    there = t;
    completes = λ r e.
        let all = prefixed_ends whole done items r each e in
        record { items = all.items; outcome = longer a _ r.outcome all.outcome };
  }
  turn_leads done items (Ok (None, rest)) each t = record { items = each; outcome = t }
  turn_leads done items (Err fault) each t = absurd fault

  turn_of_leads : (text : List ℕ) (done : ℕ) (turn : Turn (Read Item ⊥ (List A))) → T text done → OneOf G text turn → TurnLeads T (Ends whole (λ _. T)) done turn
  turn_of_leads text done turn t (one r g) = let e = (p.gets text done t).ends r g in turn_leads done r.items r.outcome e.items e.outcome

  pub many_leads : Leads whole T T (Many G)
  many_leads = record { gets = λ text done t. record { ends = λ r. turns_lead T (Ends whole (λ _. T)) turn_of_leads text done r t } }

pub repeat_leads : {whole : List ℕ} {A : Type 0} {T : List ℕ → ℕ → Type 0} (c : Construct Item ⊥ Less (OneOrEnd A))
    → Leads whole T T (Says c) → Leads whole T T (Says (repeat c))
unfolding repeat
repeat_leads c p = record { gets = λ text done t. then_gets (weaker_gets (λ a rest done t. gives_gets t) ((many_leads p).gets text done t)) }
