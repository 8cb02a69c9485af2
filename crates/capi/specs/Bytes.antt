-- The state as 84 lent bytes, big-endian, in the order of document 01, "What the controller holds": key 16, H 16, I 16, S 16, n 8, arm 4,
-- last used number 8. The layout is the boundary's own.
use Rattle.std.specs.Prelude.{List, ◌++◌, ℕ, take}
use Rattle.field.specs.Field.{number, bytes, block_at, bytes_of}
use Rattle.file.specs.declared.states.State.{State}

-- how many bytes a state takes: key, three blocks, and numbers of 8, 4 and 8 bytes; the boundary's own
abbrev pub state_bytes : ℕ
state_bytes = 84

-- the bytes of a state; their layout is the boundary's own
unfoldable pub packed_state : State → List ℕ
packed_state st =
    st.key.bytes ++ bytes_of st.h ++ bytes_of st.i ++ bytes_of st.s ++ bytes 8 st.n ++ bytes 4 st.arm ++ bytes 8 st.last

-- the state that `state_bytes` bytes hold: after the key's sixteen bytes, blocks 1, 2 and 3, and then the numbers; the boundary's own
unfoldable pub state_from : List ℕ → State
state_from b =
    record {
      key = record { bytes = take 16 b };
      h = block_at b 1;
      i = block_at b 2;
      s = block_at b 3;
      n = number b 64 8;
      arm = number b 72 4;
      last = number b 76 8;
    }
