-- The hash program's laws: the text of its lines, with document 01's example, and what its reading owes to its printing.
pub mod LineLaws
pub mod LineExample
pub mod ReadingLaws
