pub mod ColumnLists
