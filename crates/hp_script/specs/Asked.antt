-- What a request stands for.
use Rattle.std.specs.Prelude.{⊤}
use Rattle.serde_json.specs.View.{view}
use Rattle.hp_rule.specs.declared.library.Library.{Library}
use Rattle.hp_script.specs.Mapped.{schedule}
use Rattle.hp_script.specs.OwnBodies.{AreOf}
use Rattle.hp_script.specs.Requests as R
use Rattle.hp_script.specs.declared.request.Request.{Request}
use Rattle.hp_script.specs.declared.request.Request.TheVariants.{Item, Show}
use Rattle.hp_script.specs.declared.request.Excerpt.{Excerpt}
use Rattle.hp_script.specs.declared.request.Excerpt.TheVariants as excerpts
use Rattle.hp_script.specs.declared.request.ShowForm.{ShowForm}
use Rattle.hp_script.specs.declared.request.ShowForm.TheVariants as forms

abbrev pub excerpt : Excerpt → R.Excerpt
excerpt excerpts.State = R.whole_state
excerpt (excerpts.Class class) = R.objects_of class
excerpt (excerpts.Object class key) = R.object_at class key

abbrev pub request : Request → R.Request
request (Item s) = R.item (schedule s)
request (Show e) = R.show (excerpt e)

abbrev pub show_form_view : ShowForm → R.ShowForm
show_form_view forms.State = R.state_form
show_form_view (forms.Class class) = R.class_form (view class.now)
show_form_view (forms.Object class key) = R.object_form (view class.now) (view key.now)

-- the bodies in the request were checked against this library
abbrev pub IsRequestOf : Library → Request → Type 0
IsRequestOf library (Item s) = AreOf library s.units.items
IsRequestOf library (Show e) = ⊤
