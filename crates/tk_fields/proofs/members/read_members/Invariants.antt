use Rattle.std.proofs.Common.{◌≡◌, ◌++◌}
use Rattle.serde_json.specs.Data.{object}
use Rattle.serde_json.specs.View.{members_view}
use Rattle.tk_fields.specs.Check.{first_member}
use Rattle.tk_fields.specs.Get.{members, members_of}
use Rattle.tk_fields.proofs.members.read_members.Given as goal

-- the values and those of the members that are left are those of all, and what is wrong first with the members that are left is what is wrong first with all
abbrev pub invariant-loop-key : goal.invariant-loop-key
invariant-loop-key g l = record {
  made : l.values.items ++ members_of g.E.Entry.made g.E.Form.Reader.value_of (object (members_view l.key-iterator)) ≡ members_of g.E.Entry.made g.E.Form.Reader.value_of (object (members_view l.object.entries));
  left : first_member g.E.Form.Reader.check l.place (members (object (members_view l.key-iterator))) ≡ first_member g.E.Form.Reader.check l.place (members (object (members_view l.object.entries)));
}
