-- `capi::armfile_sum` meets its contract: the block's bytes are written over all sixteen (`BlockBytes`).
use Rattle.capi.proofs.BlockBytes.{block_written}
use borrow.Author.Rules.{rules}
use Rattle.capi.proofs.armfile_sum.Goals as goal

pub returns : goal.returns
returns c = block_written _ _ (search rules) c.sum_of.ensures c.write.ensures
