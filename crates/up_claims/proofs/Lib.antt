pub mod SetsLess
pub mod ClaimLists
pub mod SiteWords
pub mod RowTwoWriters
pub mod RowsOfFaults
pub mod RowsOfChoices
pub mod ClaimsInTheWay
