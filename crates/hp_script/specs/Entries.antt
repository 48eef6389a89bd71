-- What the forms of a condition's entries stand for.
use Rattle.serde_json.specs.View.{view}
use Rattle.hp_model.specs.Decode as D
use Rattle.hp_script.specs.declared.entry_form.EntryForm.{EntryForm}
use Rattle.hp_script.specs.declared.entry_form.EntryForm.TheVariants.{Query, No, Let}

abbrev pub entry_form_view : EntryForm → D.EntryForm
entry_form_view (Query q) = D.query_form (view q.name.now) (view q.class.now) (view q.predicate.now)
entry_form_view (No q) = D.no_form (view q.name.now) (view q.class.now) (view q.predicate.now)
entry_form_view (Let name aggregate) = D.let_form (view name.now) (view aggregate.now)
