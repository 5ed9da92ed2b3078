mod ListedColumns
mod GridStyles
