-- `capi::packing::encode` meets its contract. The fields stored one behind the other are the state's bytes (`StateBytes`).
use Rattle.std.proofs.Common.{rules, sym, ◌∙◌}
use Rattle.std.proofs.lemmas.List.Edits.{sets-eq}
use Rattle.capi.proofs.StateBytes.{encoded}
use Rattle.capi.proofs.packing.encode.Goals as goal

pub returns : goal.returns
returns c =
    encoded c.args.st c.args.out.now (search rules) (search rules) (sym (sets-eq c.args.st.key.bytes c.args.out.now 0 (search rules) ∙ search rules))
    c.write.ensures c.write-2.ensures c.write-3.ensures c.store.ensures c.store-2.ensures c.store-3.ensures
