-- The laws, from the bottom up. Those above use Commutative, Xor, Basis, Recurrence and Totals; the others serve these or this crate's functions.
pub mod Commutative
pub mod Xor
pub mod Basis
pub mod Recurrence
pub mod Products
pub mod HolesLaws
pub mod HalfProducts
pub mod Masks
pub mod WordLaws
pub mod Columns
pub mod Totals
pub mod RowLaws
pub mod FromFn
