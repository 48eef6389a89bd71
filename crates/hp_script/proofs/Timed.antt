-- A script without its version and its time is the script of the definitions.
use Rattle.std.proofs.Common.{◌≡◌, ℕ, List, [], Bool, true, false, cond, refl, sym, ap, ◌∙◌, length, nat_lt, Result, Ok, Err}
use Rattle.std.specs.Prelude.{codes}
use Rattle.serde_json.specs.Data.{Data}
use Rattle.hp_model.specs.Values.{ClassDef, ◌>>=◌}
use Rattle.hp_model.specs.Rules as R
use Rattle.hp_model.specs.Cascade as C
use Rattle.hp_model.specs.Refusals.{Refusal, Decoded, under_root, over_limit, size_limit, shaped}
use Rattle.hp_model.specs.RuleHeads.{RuleHead, rule_heads_at}
use Rattle.hp_model.specs.Decode.{Version, Root, version_at, depth_if_any, classes_at, rules_at, units_at, script_scope, script_from, root_of, decode, json_at, script_of}
use Rattle.hp_script.specs.Timed.{TimedScript, library_at, timed_script_at, timed_script_of, untimed}
use Rattle.hp_script.specs.Scopes.{library_scope}
use Rattle.hp_script.proofs.ItemScopes.{named_by_heads}
use Rattle.hp_script.specs.Mapped.{Gives, script, timed_script}
use Rattle.hp_script.specs.declared.script.Script.{Script}
use Rattle.hp_script.specs.declared.refusal.DecodeError.{DecodeError}
use Rattle.hp_script.specs.declared.refusal.DecodeError.TheVariants.{Refused, Memory}

untimed_then : {A : Type 0} (r : Decoded A) (f : A → Decoded TimedScript) (g : A → Decoded C.Script) → ((x : A) → untimed (f x) ≡ g x) → untimed (r >>= f) ≡ (r >>= g)
untimed_then (Ok x) f g h = h x
untimed_then (Err e) f g h = refl

untimed_unless : (b : Bool) (r : Refusal) (t : Decoded TimedScript) (s : Decoded C.Script) → untimed t ≡ s → untimed (cond b (Err r) t) ≡ cond b (Err r) s
untimed_unless true r t s e = refl
untimed_unless false r t s e = e

-- one part of the library after another
untimed_part : {A : Type 0} (r : Decoded A) (k : A → Decoded R.Library) (f : R.Library → Decoded TimedScript) (g : A → Decoded C.Script)
    → ((x : A) → r ≡ Ok x → untimed (k x >>= f) ≡ g x) → untimed ((r >>= k) >>= f) ≡ (r >>= g)
untimed_part (Ok x) k f g h = h x refl
untimed_part (Err e) k f g h = refl

-- the items over a library
abbrev items_of : Version → Data → R.Library → Decoded TimedScript
items_of version items library =
    units_at version library.rules (library_scope library) (under_root (codes "items")) items
    >>= λ schedule. Ok (record { script = record { library = library; units = schedule.units }; version = version; clock = schedule.clock })

untimed_items : (depth : ℕ) (classes : List ClassDef) (heads : List RuleHead) (items : Data) (version : Version) (rules : List R.Rule)
    → rules_at version (script_scope classes heads) (under_root (codes "rules")) heads ≡ Ok rules
    → untimed (items_of version items (record { classes = classes; rules = rules; depth_limit = depth }))
    ≡ (units_at version rules (script_scope classes heads) (under_root (codes "items")) items >>= λ schedule. Ok
    (record { library = record { classes = classes; rules = rules; depth_limit = depth }; units = schedule.units }))
untimed_items depth classes heads items version rules read =
    let library : R.Library = record { classes = classes; rules = rules; depth_limit = depth } in
    ap (λ scope. untimed (units_at version rules scope (under_root (codes "items")) items >>= λ schedule. Ok
    (record { script = record { library = library; units = schedule.units }; version = version; clock = schedule.clock })))
    (named_by_heads version classes heads rules depth (under_root (codes "rules")) read)
    ∙ untimed_then (units_at version rules (script_scope classes heads) (under_root (codes "items")) items) _ _ (λ schedule. refl)

untimed_library : (version : Version) (root : Root) → untimed (library_at version root >>= items_of version root.items)
    ≡ (depth_if_any (under_root (codes "depth")) root.depth >>= λ depth.
    classes_at (under_root (codes "classes")) root.classes >>= λ classes.
    rule_heads_at version (under_root (codes "rules")) root.rules >>= λ heads.
    script_from version depth classes heads root.items)
unfolding library_at script_from
untimed_library version root =
    untimed_part (depth_if_any (under_root (codes "depth")) root.depth) _ (items_of version root.items) _ λ depth _.
    untimed_part (classes_at (under_root (codes "classes")) root.classes) _ (items_of version root.items) _ λ classes _.
    untimed_part (rule_heads_at version (under_root (codes "rules")) root.rules) _ (items_of version root.items) _ λ heads _.
    untimed_part (rules_at version (script_scope classes heads) (under_root (codes "rules")) heads) _ (items_of version root.items) _ λ rules read.
    untimed_items depth classes heads root.items version rules read

pub untimed_at : (d : Data) → untimed (timed_script_at d) ≡ decode d
unfolding timed_script_at decode
untimed_at d =
    untimed_then (shaped [] (root_of d)) _ _ λ root.
    untimed_then (version_at (under_root (codes "version")) root.version) _ _ λ version. untimed_library version root

-- the script without its version and its time is the one that the definitions read from the bytes
pub untimed_of : (bytes : List ℕ) → untimed (timed_script_of bytes) ≡ script_of bytes
unfolding timed_script_of script_of
untimed_of bytes =
    untimed_unless (nat_lt 1048576 (length bytes)) (over_limit size_limit) (json_at bytes >>= timed_script_at) (json_at bytes >>= decode)
    (untimed_then (json_at bytes) timed_script_at decode untimed_at)

-- what gives the one gives the other
pub gives_untimed : (result : Result Script DecodeError) (t : Decoded TimedScript) (s : Decoded C.Script) → untimed t ≡ s → Gives timed_script result t → Gives script result s
gives_untimed (Ok x) t s e read = sym e ∙ ap untimed read
gives_untimed (Err (Refused r)) t s e read = sym e ∙ ap untimed read
gives_untimed (Err Memory) t s e read = tt

pub gives_script : (result : Result Script DecodeError) (bytes : List ℕ) → Gives timed_script result (timed_script_of bytes) → Gives script result (script_of bytes)
gives_script result bytes read = gives_untimed result (timed_script_of bytes) (script_of bytes) (untimed_of bytes) read
