use Rattle.std.proofs.Common.{◌∙◌, ◌++◌, ◌∷◌, [], sym, ap, subst}
use Rattle.hp_model.specs.Cells.{AreObjects, over}
use Rattle.hp_store.specs.Changes.{changes_in}
use Rattle.hp_store.specs.Tables.{base_cells}
use Rattle.hp_store.proofs.Keeping.{kept_more, cells_shown}
use Rattle.hp_store.proofs.snapshot.Snapshot.add_list.Goals as goal

pub invariant_of-self-2 : goal.invariant_of-self-2
invariant_of-self-2 c =
    let here = subst (λ cs. AreObjects cs c.args.class c.args.objects.value) (sym (cells_shown c.self.inside.base.value c.self.inside.layers.items c.args.self.now c.self.view_is)) c.requires in (
      c.self.invariant.0,
      kept_more (over (base_cells c.self.inside.base.value) (changes_in c.self.inside.layers.items)) c.self.inside.lists.items c.push_reserved.new.self.items
          (record { class = c.args.class; objects = c.args.objects })
          c.self.invariant.1 here (c.push_reserved.ensures.items ∙ ap (λ lists. lists ++ record { class = c.args.class; objects = c.args.objects } ∷ []) c.reserve.ensures.items),
      c.self.invariant.2,
    )
