-- The kinds of pieces that words are made of. Each includes the proofs that its program finds exactly it, so this file refers to proofs.
use Rattle.std.specs.Prelude.{ℕ, List, ◌∷◌}
use Rattle.constructs.specs.Pieces.{IsFirst, split_first}
use Rattle.constructs.specs.WordKind.{WordKind}
use Rattle.constructs.specs.Silent.{PieceKind}
use Rattle.bison_words.specs.declared.class.Class.{Class}
use Rattle.bison_words.specs.Runs.{Run, run_of, IsSome, some_of, IsByte, byte_of, few_of, Few, character_of, Character}
use Rattle.bison_words.specs.RunGraphs.{run_graph, run_no_longer, some_finder, some_shorter, byte_finder, byte_shorter, first_finder, first_shorter, few_graph, few_no_longer, character_graph, character_no_longer}

abbrev pub run_kind : Class → PieceKind ⊥ (List ℕ)
run_kind class = record { Is = Run class; reads = run_of class; graph = run_graph class; no_longer = run_no_longer class }

abbrev pub some_kind : Class → WordKind (List ℕ)
some_kind class = record { Is = IsSome class; find = some_of class; finds = some_finder class; shortens = some_shorter class }

abbrev pub byte_kind : Class → WordKind ℕ
byte_kind class = record { Is = IsByte class; find = byte_of class; finds = byte_finder class; shortens = byte_shorter class }

-- what precedes the first needle, which is a byte and others
abbrev pub first_kind : ℕ → List ℕ → WordKind (List ℕ)
first_kind b needle = record { Is = IsFirst (b ∷ needle); find = split_first (b ∷ needle); finds = first_finder (b ∷ needle); shortens = first_shorter b needle }

abbrev pub few_kind : Class → ℕ → PieceKind ⊥ (List ℕ)
few_kind class most = record { Is = Few class most; reads = few_of class most; graph = few_graph class most; no_longer = few_no_longer class most }

abbrev pub character_kind : PieceKind ⊥ (Unit {0})
character_kind = record { Is = Character; reads = character_of; graph = character_graph; no_longer = character_no_longer }
