pub mod KeyRows
pub mod Whole
pub mod ManyBlocks
pub mod AesLaws
pub mod RoundLanes
pub mod SixteenStates
