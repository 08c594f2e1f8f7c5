-- Constructs composed of others, and those that only read pieces. T holds where they begin, and T' where they end.
use Rattle.std.proofs.Common.{◌≡◌, ℕ, ◌<◌, Bool, true, List, ◌∷◌, refl}
use Rattle.std.specs.Prelude.{codes}
use Rattle.constructs.specs.Read as read
use Rattle.constructs.specs.Read.{Read, Exactly, Then, Case, Choice, WordOr}
use Rattle.constructs.specs.Silent.{Silently}
use Rattle.constructs.specs.Pieces.{IsFirst}
use Rattle.constructs.specs.Construct.{then, case_of, again, ends, Says}
use Rattle.cfgwords.proofs.Cuts.{IsCut}
use Rattle.bison_words.specs.declared.class.Class.{Class}
use Rattle.bison_words.specs.declared.class.Class.TheVariants.{Gap, Line, Space, NameByte}
use Rattle.bison_words.specs.Runs.{Run, IsSome, IsByte, Character}
use Rattle.bison_words.specs.Words.{Item}
use Rattle.bison_words.specs.Blanks.{line_number}
use Rattle.bison_words.specs.Brackets.{tag_piece, inner_name}
use Rattle.bison_words.specs.Code.{splice, splice_turn, splices, line_part, comment_part, escaped_part, quotes_part, less_piece, percent_piece}
use Rattle.bison_words.specs.Here.{Turn, passes}
use Rattle.bison_words.specs.TextWords.{equals}
use Rattle.bison_words.proofs.Leads.{Leads, gives_gets, weaker_gets, then_gets, case_gets, choice_gets, word_gets, silently_gets, repeat_leads}
use Rattle.bison_words.proofs.PieceCuts.{is_ascii_word, word_cut, run_cut, byte_cut, first_cut, character_cut}

module _ {whole : List ℕ} {T : List ℕ → ℕ → Type 0} {A : Type 0} where
  pub gives_leads : {a : A} → Leads whole T T (Exactly (read.gives a))
  gives_leads = record { gets = λ text done t. gives_gets t }

  pub then_leads : {Next T' : List ℕ → ℕ → Type 0} {B : Type 0} {G : List ℕ → Read Item ⊥ B → Type 0} {H : B → List ℕ → Read Item ⊥ A → Type 0}
      → Leads whole T Next G → ((b : B) → Leads whole Next T' (H b)) → Leads whole T T' (Then G H)
  then_leads p q = record { gets = λ text done t. then_gets (weaker_gets (λ b rest done t. (q b).gets rest done t) (p.gets text done t)) }

  pub choice_leads : {T' : List ℕ → ℕ → Type 0} {test : List ℕ → Bool} {G H : List ℕ → Read Item ⊥ A → Type 0}
      → Leads whole T T' G → Leads whole T T' H → Leads whole T T' (Choice test G H)
  choice_leads p q = record { gets = λ text done t. choice_gets (p.gets text done t) (q.gets text done t) }

  pub later_leads : {T' Later : List ℕ → ℕ → Type 0} {G : List ℕ → Read Item ⊥ A → Type 0}
      → ((text : List ℕ) (done : ℕ) → T' text done → Later text done) → Leads whole T T' G → Leads whole T Later G
  later_leads h p = record { gets = λ text done t. weaker_gets (λ a rest done t. h rest done t) (p.gets text done t) }

-- after a piece Next holds where T did before it
abbrev pub Advances : (T Next : List ℕ → ℕ → Type 0) → Type 0
Advances T Next = (text rest : List ℕ) (done : ℕ) → T text done → IsCut text rest → Next rest done

module _ {whole : List ℕ} {T Next T' : List ℕ → ℕ → Type 0} (on : Advances T Next) {A : Type 0} {H : List ℕ → Read Item ⊥ A → Type 0} where
  pub case_leads : {word : List ℕ} {G : List ℕ → Read Item ⊥ A → Type 0} → is_ascii_word word ≡ true
      → Leads whole Next T' G → Leads whole T T' H → Leads whole T T' (Case word G H)
  case_leads {word = word} ascii p q = record {
    gets = λ text done t. case_gets (λ rest e. p.gets rest done (on text rest done t (word_cut word text rest ascii e))) (q.gets text done t);
  }

  pub some_leads : {class : Class} {G : List ℕ → List ℕ → Read Item ⊥ A → Type 0}
      → ((word : List ℕ) → Leads whole Next T' (G word)) → Leads whole T T' H → Leads whole T T' (WordOr (IsSome class) (λ text word rest. word) G H)
  some_leads {class = class} p q = record {
    gets = λ text done t. word_gets (λ word rest is. (p word).gets rest done (on text rest done t (run_cut class text word rest is.run))) (q.gets text done t);
  }

  pub byte_leads : {class : Class} {G : ℕ → List ℕ → Read Item ⊥ A → Type 0}
      → ((byte : ℕ) → Leads whole Next T' (G byte)) → Leads whole T T' H → Leads whole T T' (WordOr (IsByte class) (λ text byte rest. byte) G H)
  byte_leads {class = class} p q = record {
    gets = λ text done t. word_gets (λ byte rest is. (p byte).gets rest done (on text rest done t (byte_cut class text byte rest is))) (q.gets text done t);
  }

  pub first_leads : {b : ℕ} {needle : List ℕ} {G : List ℕ → List ℕ → Read Item ⊥ A → Type 0} → b < 128 → is_ascii_word (b ∷ needle) ≡ true
      → ((body : List ℕ) → Leads whole Next T' (G body)) → Leads whole T T' H → Leads whole T T' (WordOr (IsFirst (b ∷ needle)) (λ text body rest. body) G H)
  first_leads {b = b} {needle = needle} small ascii p q = record {
    gets = λ text done t. word_gets (λ body rest is. (p body).gets rest done (on text rest done t (first_cut b needle text body rest small ascii is))) (q.gets text done t);
  }

-- what follows a backslash in a splice
abbrev pub after_backslash : Turn (Unit {0})
after_backslash = then (passes Gap) (λ _. case_of (codes "\r\n") (again tt) (case_of (codes "\n") (again tt) ends))

module _ {whole : List ℕ} {T : List ℕ → ℕ → Type 0} (on : Advances T T) where
  pub run_leads : (class : Class) → Leads whole T T (Silently (Run class))
  run_leads class = record { gets = λ text done t. silently_gets (λ word rest is. on text rest done t (run_cut class text word rest is)) }

  pub character_leads : Leads whole T T (Silently Character)
  character_leads = record { gets = λ text done t. silently_gets (λ u rest is. on text rest done t (character_cut text u rest is)) }

  pub passes_leads : (class : Class) → Leads whole T T (Says (passes class))
  passes_leads class = then_leads (run_leads class) (λ _. gives_leads)

  pub line_number_leads : Leads whole T T (Says line_number)
  unfolding line_number
  line_number_leads = choice_leads (passes_leads Line) gives_leads

  pub equals_leads : Leads whole T T (Says equals)
  unfolding equals
  equals_leads = then_leads (passes_leads Space) (λ _. case_leads on refl gives_leads gives_leads)

  pub inner_name_leads : Leads whole T T (Says inner_name)
  unfolding inner_name
  inner_name_leads = choice_leads (then_leads (passes_leads NameByte) (λ _. gives_leads)) gives_leads

  pub tag_piece_leads : Leads whole T T (Says tag_piece)
  unfolding tag_piece
  tag_piece_leads = some_leads on (λ _. gives_leads)
      (case_leads on refl gives_leads
      (case_leads on refl gives_leads
      (case_leads on refl gives_leads
      (case_leads on refl gives_leads
      gives_leads))))

  pub backslash_leads : Leads whole T T (Says after_backslash)
  backslash_leads = then_leads (passes_leads Gap) (λ _. case_leads on refl gives_leads (case_leads on refl gives_leads gives_leads))

  pub splice_leads : Leads whole T T (Says splice)
  unfolding splice
  splice_leads = case_leads on refl backslash_leads gives_leads

  splice_turn_leads : Leads whole T T (Says splice_turn)
  unfolding splice_turn
  splice_turn_leads = choice_leads splice_leads gives_leads

  pub splices_leads : Leads whole T T (Says splices)
  unfolding splices
  splices_leads = repeat_leads splice_turn splice_turn_leads

  pub line_part_leads : Leads whole T T (Says line_part)
  unfolding line_part
  line_part_leads = choice_leads splice_leads (case_leads on refl gives_leads (some_leads on (λ _. gives_leads) gives_leads))

  pub comment_part_leads : Leads whole T T (Says comment_part)
  unfolding comment_part
  comment_part_leads = some_leads on (λ _. gives_leads)
      (case_leads on refl (then_leads splices_leads (λ _. choice_leads gives_leads gives_leads))
      gives_leads)

  escaped_part_leads : Leads whole T T (Says escaped_part)
  unfolding escaped_part
  escaped_part_leads = then_leads splices_leads (λ _. byte_leads on (λ _. gives_leads) gives_leads)

  pub quotes_part_leads : (close : List ℕ) → Leads whole T T (Says (quotes_part close))
  unfolding quotes_part
  quotes_part_leads close = choice_leads gives_leads
      (choice_leads splice_leads
      (case_leads on refl escaped_part_leads
      (byte_leads on (λ _. gives_leads)
      (some_leads on (λ _. gives_leads)
      gives_leads))))

  pub less_piece_leads : Leads whole T T (Says less_piece)
  unfolding less_piece
  less_piece_leads = then_leads splices_leads (λ _. case_leads on refl gives_leads (case_leads on refl gives_leads gives_leads))

  pub percent_piece_leads : Leads whole T T (Says percent_piece)
  unfolding percent_piece
  percent_piece_leads = then_leads splices_leads (λ _. case_leads on refl gives_leads gives_leads)
