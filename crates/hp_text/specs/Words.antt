-- The reserved words by their lengths.
use Rattle.std.specs.Prelude.{ℕ, List, [], ◌∷◌, map, Option}
use Rattle.hp_model.specs.Json.{beside}
use Rattle.hp_model.specs.NotationTokens.{Mark, with_spelling, on_mark, if_mark, do_mark, as_mark, or_mark, set_mark, and_mark, not_mark, new_mark, old_mark, key_mark, for_mark, sub_mark}
use Rattle.hp_model.specs.NotationTokens.{else_mark, then_mark, true_mark, emit_mark, each_mark, with_mark, veto_mark, fire_mark, where_mark, until_mark, false_mark, event_mark, abort_mark}
use Rattle.hp_model.specs.NotationTokens.{create_mark, update_mark, delete_mark, signal_mark, enable_mark, remove_mark, install_mark, disable_mark, deferred_mark, separate_mark, otherwise_mark}
use Rattle.hp_model.specs.NotationTokens.{immediate_mark, dependent_mark, exclusive_mark}

abbrev pub of_2 : List Mark
of_2 = on_mark ∷ if_mark ∷ do_mark ∷ as_mark ∷ or_mark ∷ []

abbrev pub of_3 : List Mark
of_3 = set_mark ∷ and_mark ∷ not_mark ∷ new_mark ∷ old_mark ∷ key_mark ∷ for_mark ∷ sub_mark ∷ []

abbrev pub of_4 : List Mark
of_4 = else_mark ∷ then_mark ∷ true_mark ∷ emit_mark ∷ each_mark ∷ with_mark ∷ veto_mark ∷ fire_mark ∷ []

abbrev pub of_5 : List Mark
of_5 = where_mark ∷ until_mark ∷ false_mark ∷ event_mark ∷ abort_mark ∷ []

abbrev pub of_6 : List Mark
of_6 = create_mark ∷ update_mark ∷ delete_mark ∷ signal_mark ∷ enable_mark ∷ remove_mark ∷ []

abbrev pub of_7 : List Mark
of_7 = install_mark ∷ disable_mark ∷ []

abbrev pub of_8 : List Mark
of_8 = deferred_mark ∷ separate_mark ∷ []

abbrev pub of_9 : List Mark
of_9 = otherwise_mark ∷ immediate_mark ∷ dependent_mark ∷ exclusive_mark ∷ []

-- the one of these words that a text is
abbrev pub among : List Mark → List ℕ → Option Mark
among words text = beside text (map with_spelling words)
