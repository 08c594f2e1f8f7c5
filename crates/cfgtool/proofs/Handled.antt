-- How a run ends, by what its arguments name and what its source returns.
use Rattle.std.proofs.Common.{◌≡◌, ℕ, ◌<◌, ◌≤◌, List, [], ◌∷◌, length, map, get_or, Option, Some, Result, Ok, Err, Vec, Global, true, refl, sym, subst, ap, arith}
use Rattle.std.specs.Prelude.{IsErrAnd}
use Rattle.std.specs.Borrow.{Bor}
use Rattle.std.specs.Io.KnownBytes.{Keeps}
use Rattle.std.specs.Str.{IsUtf8}
use Rattle.std.proofs.KnownBytes.{Keeps-refl}
use Rattle.cfgsink.specs.declared.outcome.Outcome.{Outcome}
use Rattle.cfgsink.specs.declared.outcome.ReportFault.{ReportFault}
use Rattle.cfgtool.specs.declared.faults.RunFault.{RunFault}
use Rattle.cfgprogram.specs.declared.source.Input.{Input}
use Rattle.cfgprogram.specs.declared.source.Input.TheVariants as input
use Rattle.cfgtool.specs.declared.arguments.Command.{Command}
use Rattle.cfgprogram.specs.declared.kinds.KindArg.{KindArg}
use Rattle.cfgtool.specs.Endings.{Ending, NotUtf8, Usage, IsFetched, ending_in, ending_of, ending_with}
use Rattle.cfgprogram.specs.Kinds.{kind_named}
use Rattle.cfgtool.specs.Arguments.{command_named}
use Rattle.cfgtool.specs.Report.{ReportsText}
use Rattle.cfgtool.specs.Run.{EndsReported, EndsUnread, HandlesFirst, HandlesLexer, HandlesNames, HandlesTexts, HandlesArguments, WithBytes, WithText}

three_arguments : (arguments : List (Bor (List ℕ))) (d : Bor (List ℕ)) → 3 ≤ length arguments → length arguments < 4
    → map (λ word. word.now) arguments ≡ (get_or arguments 0 d).now ∷ ((get_or arguments 1 d).now ∷ ((get_or arguments 2 d).now ∷ []))
three_arguments [] d least below = absurd (omega (arith, least))
three_arguments (x ∷ []) d least below = absurd (omega (arith, least))
three_arguments (x ∷ (y ∷ [])) d least below = absurd (omega (arith, least))
three_arguments (x ∷ (y ∷ (z ∷ []))) d least below = refl
three_arguments (x ∷ (y ∷ (z ∷ (w ∷ rest)))) d least below = absurd (omega (arith, below))

-- how a run ends whose report failed
pub ended_with : (r : Result Outcome RunFault) (fault : ReportFault) → IsErrAnd r (λ made. ending_with made ≡ ending_of (Err fault)) → ending_in r ≡ ending_of (Err fault)
ended_with (Ok outcome) fault made = absurd made
ended_with (Err run_fault) fault made = made

-- how a run ends that failed for this reason
pub ended_so : (r : Result Outcome RunFault) (fault : RunFault) → IsErrAnd r (λ made. made ≡ fault) → ending_in r ≡ ending_with fault
ended_so (Ok outcome) fault made = absurd made
ended_so (Err run_fault) fault made = ap ending_with made

-- the bytes that a run continues with
fetched : (old new : Option (List ℕ)) (ending : Ending) (file : List ℕ) (answer : Input) (bytes : Vec ℕ Global) (Holds : List ℕ → Type 0) → IsFetched file answer (Ok bytes) → Holds bytes.items
    → WithBytes old new ending file answer Holds
fetched old new ending file (input.Bytes given) bytes Holds is holds = subst (λ (v : Vec ℕ Global). Holds v.items) is holds
fetched old new ending file input.Unreadable bytes Holds is holds = absurd is
fetched old new ending file input.OutOfMemory bytes Holds is holds = absurd is

module _ (bytes : Vec ℕ Global) (handed : List ℕ) (handed_is : handed ≡ bytes.items) (ending : Ending) (file : List ℕ) (Holds : Type 0) where
  pub is_text : (old new : Option (List ℕ)) → IsUtf8 handed → Holds → WithText old new ending file bytes.items Holds
  is_text old new utf8 holds = (λ _. holds, λ other. absurd (other (subst IsUtf8 handed_is utf8)))

  pub not_text : (old : Option (List ℕ)) → (IsUtf8 handed → ⊥) → ending ≡ NotUtf8 file → WithText old old ending file bytes.items Holds
  not_text old other ends = (λ utf8. absurd (other (subst IsUtf8 (sym handed_is) utf8)), λ _. (ends, Keeps-refl old))

-- a file that is read, for arguments that name a kind and a command
pub read_one : {S : Type 0} (Fetches : S → List ℕ → Input → S → Type 0) (kind : KindArg) (command : Command) (file : List ℕ) (before after : S) (old new : Option (List ℕ)) (ending : Ending)
    → (kind_argument command_argument : List ℕ) → Some kind ≡ kind_named kind_argument → Some command ≡ command_named command_argument
    → (bytes : Vec ℕ Global) → (answer : Input) × Fetches before file answer after × IsFetched file answer (Ok bytes)
    → WithText old new ending file bytes.items (EndsReported (ReportsText kind command bytes.items) old new ending)
    → HandlesNames (kind_named kind_argument) (command_named command_argument) file Fetches before after old new ending
read_one Fetches kind command file before after old new ending kind_argument command_argument kind_is command_is bytes (answer, given, is) handles =
    let read = fetched old new ending file answer bytes (λ text. WithText old new ending file text (EndsReported (ReportsText kind command text) old new ending)) is handles in
    subst (λ k. HandlesNames k (command_named command_argument) file Fetches before after old new ending) kind_is
    (subst (λ m. HandlesNames (Some kind) m file Fetches before after old new ending) command_is (answer, given, read))

-- two files that are read, for an argument that names a kind
module _ {S : Type 0} (Fetches : S → List ℕ → Input → S → Type 0) (kind : KindArg) (file names : List ℕ) (before between after : S) (old new : Option (List ℕ)) (ending : Ending) where
  first : (answer : Input) (bytes : Vec ℕ Global) → IsFetched file answer (Ok bytes)
      → (second : Input) → Fetches between names second after
      → WithBytes old new ending names second (λ list. HandlesTexts kind file names bytes.items list old new ending)
      → HandlesFirst kind file names answer Fetches between after old new ending
  first (input.Bytes given) bytes is second fetches handles =
      (second, fetches, subst (λ (v : Vec ℕ Global). WithBytes old new ending names second (λ list. HandlesTexts kind file names v.items list old new ending)) is handles)
  first input.Unreadable bytes is second fetches handles = absurd is
  first input.OutOfMemory bytes is second fetches handles = absurd is

  pub read_both : (kind_argument : List ℕ) → Some kind ≡ kind_named kind_argument
      → (bytes list : Vec ℕ Global) → (answer : Input) × Fetches before file answer between × IsFetched file answer (Ok bytes) → (answer : Input) × Fetches between names answer after × IsFetched names answer (Ok list)
      → HandlesTexts kind file names bytes.items list.items old new ending
      → HandlesLexer (kind_named kind_argument) true file names Fetches before after old new ending
  read_both kind_argument kind_is bytes list (answer, given, is) (second, also_given, second_is) handles =
      subst (λ k. HandlesLexer k true file names Fetches before after old new ending) kind_is
      (answer, between, given, first answer bytes is second also_given (fetched old new ending names second list (λ list. HandlesTexts kind file names bytes.items list old new ending) second_is handles))

module _ {S : Type 0} (arguments : List (Bor (List ℕ))) (d : Bor (List ℕ)) (Fetches : S → List ℕ → Input → S → Type 0) (before after : S) (old new : Option (List ℕ)) (ending : Ending) where
  -- three arguments
  pub handled : 3 ≤ length arguments → length arguments < 4
      → HandlesNames (kind_named (get_or arguments 0 d).now) (command_named (get_or arguments 1 d).now) (get_or arguments 2 d).now Fetches before after old new ending
      → HandlesArguments (map (λ word. word.now) arguments) Fetches before after old new ending
  handled least below handles = subst (λ ws. HandlesArguments ws Fetches before after old new ending) (sym (three_arguments arguments d least below)) handles

  -- neither three arguments nor four
  pub unrequested : ending ≡ Usage → after ≡ before → new ≡ old → (3 ≤ length arguments → length arguments < 5 → ⊥) → HandlesArguments (map (λ word. word.now) arguments) Fetches before after old new ending
  unrequested ends same kept other = go arguments other
    where
      unread : EndsUnread before after old new ending
      unread = (same, (ends, subst (Keeps old) (sym kept) (Keeps-refl old)))

      go : (arguments : List (Bor (List ℕ))) → (3 ≤ length arguments → length arguments < 5 → ⊥) → HandlesArguments (map (λ word. word.now) arguments) Fetches before after old new ending
      go [] other = unread
      go (x ∷ []) other = unread
      go (x ∷ (y ∷ [])) other = unread
      go (x ∷ (y ∷ (z ∷ []))) other = absurd (other (omega arith) (omega arith))
      go (x ∷ (y ∷ (z ∷ (w ∷ [])))) other = absurd (other (omega arith) (omega arith))
      go (x ∷ (y ∷ (z ∷ (w ∷ (v ∷ rest))))) other = unread
