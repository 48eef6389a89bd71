use Rattle.std.proofs.Common.{◌≡◌, ◌++◌, ◌∷◌, [], rules}
use Rattle.hp_model.specs.Cells.{Cells, AreObjects, over}
use Rattle.hp_store.specs.Changes.{changes}
use Rattle.hp_store.proofs.Keeping.{kept_more}
use Rattle.hp_store.proofs.Wholes.{told_some}
use Rattle.hp_store.proofs.kept.keep_under.Goals as goal

pub returns : goal.returns
returns c = λ base are kept.
    let list = c.args.list.now in
    let pushed : c.push.new.self.items ≡ c.args.kept.now.items ++ record { class = list.class; objects = c.in-Some.objects } ∷ [] = search rules in
    let under = told_some (λ objects. (base : Cells) → AreObjects base list.class list.objects.value → AreObjects (over base (changes c.args.layer.now)) list.class objects.value)
    c.in-Some.is c.in_ok-objects.ensures base are in
    kept_more (over base (changes c.args.layer.now)) c.args.kept.now.items c.push.new.self.items (record { class = list.class; objects = c.in-Some.objects }) kept under pushed
