-- What arguments request, one by one.
use Rattle.std.proofs.Common.{◌≡◌, ℕ, ◌+◌, ◌<◌, ◌≤◌, List, ◌∷◌, length, map, drop, get_or, sym, subst, ◌∙◌}
use Rattle.std.specs.Borrow.{Bor}
use Rattle.std.proofs.lemmas.List.{at_drop_all, at_drop_more}
use Rattle.cfglint_shell.specs.declared.arguments.Expected.{Expected}
use Rattle.cfglint_shell.specs.Requests.{Requested, Options, Step, Goes, Stops, arguments_request, at_end, on_step, with_expected}

module _ (expected : Expected) (options : Options) (arguments : List (Bor (List ℕ))) (i : ℕ) (requested : Requested)
    (asks : arguments_request expected options (map (λ argument. argument.now) (drop i arguments)) ≡ requested) where
  -- the argument at this index is read first
  at_argument : (d : Bor (List ℕ)) → i < length arguments
      → arguments_request expected options ((get_or arguments i d).now ∷ map (λ argument. argument.now) (drop (i + 1) arguments)) ≡ requested
  at_argument d within = sym (at_drop_more (λ rest. arguments_request expected options (map (λ argument. argument.now) rest)) arguments i d within) ∙ asks

  -- after it others are read
  pub at_goes : (d : Bor (List ℕ)) (next : Expected) (new : Options) → i < length arguments
      → Goes next new ≡ with_expected options expected (get_or arguments i d).now
      → arguments_request next new (map (λ argument. argument.now) (drop (i + 1) arguments)) ≡ requested
  unfolding arguments_request
  at_goes d next new within is = subst
      (λ (step : Step). on_step (λ next options. arguments_request next options (map (λ argument. argument.now) (drop (i + 1) arguments))) step ≡ requested)
      (sym is) (at_argument d within)

  -- it decides
  pub at_stops : (d : Bor (List ℕ)) (decided : Requested) → i < length arguments
      → Stops decided ≡ with_expected options expected (get_or arguments i d).now → decided ≡ requested
  unfolding arguments_request
  at_stops d decided within is = subst
      (λ (step : Step). on_step (λ next options. arguments_request next options (map (λ argument. argument.now) (drop (i + 1) arguments))) step ≡ requested)
      (sym is) (at_argument d within)

  -- none is left
  pub past_arguments : length arguments ≤ i → at_end options expected ≡ requested
  unfolding arguments_request
  past_arguments past = sym (at_drop_all (λ rest. arguments_request expected options (map (λ argument. argument.now) rest)) arguments i past) ∙ asks
