-- What this crate hands to the layers above: the definitions below without their text. Laws about them are in proofs/, whose
-- Lib names the files.
pub use Rattle.field.specs.Bytes.{number, bytes, xor_bytes}
pub use Rattle.field.specs.Blocks.{value, block, Small, ◌⊕◌, ◌•◌, zero_block, one, block_at, bytes_of}
pub use Rattle.field.specs.Powers.{power, companion, width, steps}
pub use Rattle.field.specs.Sums.{blocks, sum}
pub use Rattle.field.specs.Series.{series, series_steps, fill_block, final_block, unfilled, blank_sum, blank_count, BlankSum}
pub use Rattle.field.specs.Ghash.{Yᵢ, length_block, ghash}
pub use Rattle.field.specs.Clauses.{cause_number, answer_refusal, counted, sought, streamed, absorbed, join_answer}
pub use Rattle.field.specs.Streams.{absorbed_all, finished, Whole, none, last, more}
pub use Rattle.field.specs.Answers.{max_bytes, multiply_refusal, multiply_output, ghash_refusal, ghash_output}
pub use Rattle.field.specs.Parts.{join_refusal, JoinAnswer, joined_to, joined}
pub use Rattle.field.specs.Joins.{sums_of, lengths_of, PartsJoin}
pub use Rattle.field.specs.FieldBench.{FieldBench}
pub use Rattle.field.specs.Strength.{IsField, DifferentKeys, passing, how_many, AtMostKeys, FileOf, differ_by, FewCollide, own_length, first_bit, BoundsReached}
