pub mod DrawnPoints
