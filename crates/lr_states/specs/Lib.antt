pub mod Viable
pub mod Automaton
pub mod Lookaheads
pub mod Inner
