pub mod SmallTwoViews
