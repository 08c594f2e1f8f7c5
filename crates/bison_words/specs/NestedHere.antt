-- A bracket that closes the one before this offset, as a construct.
use Rattle.std.specs.Prelude.{List, [], ◌∷◌, Bool}
use Rattle.constructs.specs.Silent.{PieceKind}
use Rattle.constructs.specs.Construct.{◌>>=◌, ◌>>◌, silently, emits, gives}
use Rattle.bison_words.specs.declared.nesting.Nesting.{Nesting}
use Rattle.bison_words.specs.Words.{Item}
use Rattle.bison_words.specs.Here.{Lax, Turn}
use Rattle.bison_words.specs.Nested.{Found, IsNested, nested}
use Rattle.bison_words.specs.NestedGraph.{nested_graph, nested_no_longer}

abbrev pub nested_kind : Turn Nesting → PieceKind ⊥ Found
nested_kind piece = record { Is = IsNested piece; reads = nested piece; graph = nested_graph piece; no_longer = nested_no_longer piece }

unfoldable pub emits_all : List Item → Lax Bool → Lax Bool
emits_all [] c = c
emits_all (item ∷ items) c = do
  emits item
  emits_all items c

-- the pieces up to the closing bracket, and whether there is one; else all pieces
unfoldable pub closing : Turn Nesting → Lax Bool
closing piece = do
  found ← silently (nested_kind piece)
  emits_all found.items (gives found.closed)
