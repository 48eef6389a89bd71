use Rattle.std.proofs.Common.{sym, ap, ◌∙◌, ◌≡◌, Option, Some, None, refl}
use Rattle.std.specs.Prelude.{is_some, option_map}
use Rattle.hp_analysis.proofs.Signatures.{stored_is}
use Rattle.hp_analysis.proofs.kinds.declaration.Declaration.is_declared.Goals as goal

there : {X Y : Type 0} (f : X → Y) (o : Option X) → is_some o ≡ is_some (option_map f o)
there f None = refl
there f (Some x) = refl

pub returns : goal.returns
returns c = c.contains_key.ensures ∙ there _ _ ∙ ap is_some (sym (stored_is c.args.self.now.signatures.entries c.args.name.now))
