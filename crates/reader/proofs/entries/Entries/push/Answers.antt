-- Room for another server, and what holds with it.
use Rattle.std.proofs.Common.{[], ◌∷◌, ◌++◌, map, ap, ◌∙◌, arith, length}
use Rattle.sheets.specs.Reads.{entry}
use Rattle.sheets.proofs.Servers.{all_made_length}
use Rattle.reader.proofs.Made.{matched_push}
use Rattle.reader.proofs.entries.Entries.push.Goals as goal

pub push-requires-2 : goal.push-requires-2
push-requires-2 c = omega (arith, all_made_length (map entry c.self.inside.tasks) c.self.inside.servers c.self.invariant.made, ap length c.self.view_is)

pub invariant_of-self : goal.invariant_of-self
invariant_of-self c =
    let old = c.self.inside in
    matched_push old.tasks _ old.parts _ old.servers _ c.args.served.task c.args.served.server c.self.invariant c.requires.made c.push.ensures (c.push-3.ensures ∙ ap (λ part. old.parts ++ part ∷ []) c.from.ensures) c.push-2.ensures
